use Rattle.std.proofs.Common.{◌≡◌, None, length}
use Rattle.ignore_rules.specs.Signs.{signs_from}
use Rattle.ignore_rules.proofs.Signs.{class_state, all_onto}
use Rattle.ignore_rules.proofs.sign.read_signs.Given as goal

-- the signs so far, before those of what is left
abbrev pub invariant-loop-mark : goal.invariant-loop-mark
invariant-loop-mark l = signs_from None l.marks ≡ all_onto l.signs.items (signs_from (class_state l.inside l.body.items) l.rest)

abbrev pub decreases-loop-mark : goal.decreases-loop-mark
decreases-loop-mark l = length l.rest
