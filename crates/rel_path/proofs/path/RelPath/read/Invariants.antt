use Rattle.std.proofs.Common.{◌≡◌, take, drop, length}
use Rattle.rel_path.specs.Paths.{parts_of, first_fault}
use Rattle.rel_path.proofs.path.RelPath.read.Given as goal

-- the parts so far are kept, and none of them is bad
abbrev pub invariant-loop-part : goal.invariant-loop-part
invariant-loop-part l =
    (goal.iterator-loop-part).can_next l.part-iterator ×
    (goal.iterator-loop-part).is_finite l.part-iterator ×
    (l.parts.items ≡ take (length l.yielded) (parts_of l.text)) ×
    (first_fault (parts_of l.text) ≡ first_fault (drop (length l.yielded) (parts_of l.text)))
