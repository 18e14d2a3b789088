use Rattle.std.proofs.Common.{◌≡◌, ◌++◌, map, take}
use Rattle.glob_syntax.proofs.expand.push_each.Given as goal

-- the lines so far
abbrev pub invariant-loop-part : goal.invariant-loop-part
invariant-loop-part l = l.longer.items ≡ l.fn.longer.items ++ map (λ part. l.line ++ part) (take l.part-index l.parts)
