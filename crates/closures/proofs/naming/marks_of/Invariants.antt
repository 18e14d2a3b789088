use Rattle.std.proofs.Common.{◌≡◌, take}
use Rattle.run_laws.specs.Closures.{names}
use Rattle.closures.specs.Named.{marks_of}
use Rattle.closures.proofs.naming.marks_of.Given as goal

-- the inputs of the parts so far
abbrev pub invariant-loop-part : goal.invariant-loop-part
invariant-loop-part l = l.marks.items ≡ marks_of (names (take l.part-index l.parts)) l.files
