use Rattle.std.proofs.Common.{◌≤◌, ◌+◌, ◌*◌, length}
use Rattle.wildcards.specs.Spells.{AfterSome, Spells}
use Rattle.wildcards.proofs.Walk.{Walking, Passes}
use Rattle.wildcards.proofs.matching.spells_somewhere.Given as goal

-- the walk, and its items are never more than those passed
abbrev pub invariant-loop-element : goal.invariant-loop-element
invariant-loop-element g l =
    Walking g.I.Item.is_run (Passes g.I.Item.takes) (AfterSome (Spells g.I.Item.is_run (Passes g.I.Item.takes) l.fn.items) (g.C.Elements.elements l.fn.elements)) l.back_items (g.C.Elements.elements l.back) l.left (g.C.Elements.elements l.rest)
    × (length l.back_items ≤ length l.fn.items) × (length l.left ≤ length l.fn.items)

abbrev pub decreases-loop-element : goal.decreases-loop-element
decreases-loop-element g l = length (g.C.Elements.elements l.back) * (length l.fn.items + 1) + length l.left
