use Rattle.std.proofs.Common.{◌≡◌, ◌++◌, map, take, drop}
use Rattle.glob_syntax.proofs.expand.append_to_each.Given as goal

-- the lines so far are longer, the others as they were
abbrev pub invariant-loop-line : goal.invariant-loop-line
invariant-loop-line l = l.line-items ≡ map (λ line. line ++ l.part) (take l.line-index l.fn.lines.items) ++ drop l.line-index l.fn.lines.items
