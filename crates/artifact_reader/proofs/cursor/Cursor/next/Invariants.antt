use Rattle.std.proofs.Common.{length}
use Rattle.artifact_reader.specs.Parts.{AreWell}
use Rattle.artifact_reader.specs.Cursors.{left_in}
use Rattle.artifact_reader.proofs.Passing.{Passes}
use Rattle.artifact_reader.proofs.cursor.Cursor.next.Given as goal

abbrev pub invariant-loop-part : goal.invariant-loop-part
invariant-loop-part l = Passes (left_in l.fn.self) (left_in l.cursor) × AreWell (left_in l.cursor)

abbrev pub decreases-loop-part : goal.decreases-loop-part
decreases-loop-part l = length (left_in l.cursor)
