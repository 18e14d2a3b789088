use Rattle.std.proofs.Common.{◌≡◌, drop}
use Rattle.cli_words.specs.Orders.{first_extra}
use Rattle.cli_words.specs.Seen.{all_seen}
use Rattle.cli_words.proofs.uses.extra_of.Given as goal

abbrev pub invariant-loop-placed : goal.invariant-loop-placed
invariant-loop-placed l = first_extra (all_seen (drop l.placed-index l.items)) ≡ first_extra (all_seen l.items)
