use Rattle.std.proofs.Common.{◌≡◌, length}
use Rattle.wildcards.specs.Spells.{spells}
use Rattle.wildcards.proofs.matching.spells.Given as goal

-- the items left take what is left exactly where the whole pattern takes all
abbrev pub invariant-loop-item : goal.invariant-loop-item
invariant-loop-item g l = spells g.I.Item.is_run g.I.Item.takes l.left (g.C.Elements.elements l.rest) ≡ spells g.I.Item.is_run g.I.Item.takes l.fn.items (g.C.Elements.elements l.fn.elements)

abbrev pub decreases-loop-item : goal.decreases-loop-item
decreases-loop-item g l = length l.left
