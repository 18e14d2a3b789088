use Rattle.std.proofs.Common.{◌≡◌, ◌++◌, length}
use Rattle.page.specs.Blocks.{log_lines}
use Rattle.page.proofs.blocks.push_log.Given as goal

abbrev pub invariant-loop-rest : goal.invariant-loop-rest
invariant-loop-rest l = l.text.items ++ log_lines l.front l.rest ≡ l.fn.text.items ++ log_lines l.front l.log

abbrev pub decreases-loop-rest : goal.decreases-loop-rest
decreases-loop-rest l = length l.rest
