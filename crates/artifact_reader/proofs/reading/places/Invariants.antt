use Rattle.artifact_reader.specs.Parts.{shown}
use Rattle.artifact_reader.specs.Cursors.{left_in}
use Rattle.artifact_reader.proofs.SoFar.{SoFar}
use Rattle.artifact_reader.proofs.Places.{FewSoFar}
use Rattle.artifact_reader.proofs.reading.places.Given as goal

abbrev pub invariant-loop-left : goal.invariant-loop-left
invariant-loop-left l =
    SoFar (λ text. shown text l.found) (left_in l.fn.cursor) (left_in l.cursor) l.fn.n l.left
    × FewSoFar (left_in l.fn.cursor) l.found (left_in l.cursor) l.left

abbrev pub decreases-loop-left : goal.decreases-loop-left
decreases-loop-left l = l.left
