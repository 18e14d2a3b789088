use Rattle.std.proofs.Common.{◌≡◌, take}
use Rattle.glob_syntax.specs.Pieces.{each_then}
use Rattle.glob_syntax.proofs.expand.each_then.Given as goal

-- the lines so far
abbrev pub invariant-loop-line : goal.invariant-loop-line
invariant-loop-line l = l.longer.items ≡ each_then (take l.line-index l.lines) l.parts
