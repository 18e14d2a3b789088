use Rattle.std.proofs.Common.{◌≡◌, ◌++◌}
use Rattle.std.specs.Vec.Iter.{into_iter_items}
use Rattle.ignore_rules.specs.Parts.{parts_of}
use Rattle.ignore_rules.proofs.Parts.{parts_behind}
use Rattle.ignore_rules.proofs.part.read_parts.Given as goal

-- the parts so far, before those of the component that has begun and of what is left
abbrev pub invariant-loop-sign : goal.invariant-loop-sign
invariant-loop-sign l = parts_of l.fn.signs.items ≡ l.parts.items ++ parts_behind l.component.items (into_iter_items l.sign-iterator)
