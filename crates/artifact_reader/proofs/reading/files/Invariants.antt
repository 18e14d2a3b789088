use Rattle.std.proofs.Common.{◌-◌}
use Rattle.artifact_reader.specs.Parts.{AreWell}
use Rattle.artifact_reader.specs.Cursors.{left_in}
use Rattle.artifact_reader.specs.Reads.{AreFilePlaces}
use Rattle.artifact_reader.proofs.Gathering.{FilesSoFar}
use Rattle.artifact_reader.proofs.reading.files.Given as goal

-- what is left to read behind the files so far
abbrev pub invariant-loop-i : goal.invariant-loop-i
invariant-loop-i l = FilesSoFar (left_in l.initial.behind) l.files (left_in l.behind) l.initial.count (l.initial.count - l.i) × AreFilePlaces (left_in l.initial.behind) l.files (left_in l.behind) × AreWell (left_in l.behind)
