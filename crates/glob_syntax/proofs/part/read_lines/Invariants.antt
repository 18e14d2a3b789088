use Rattle.std.proofs.Common.{◌≡◌, map, take}
use Rattle.glob_syntax.specs.Parts.{parts_of}
use Rattle.glob_syntax.proofs.part.read_lines.Given as goal

-- the alternatives so far
abbrev pub invariant-loop-line : goal.invariant-loop-line
invariant-loop-line l = l.alternatives.items ≡ map parts_of (take l.line-index l.lines)
