use Rattle.std.proofs.Common.{◌≡◌, ◌++◌, drop}
use Rattle.run_plan.specs.Commands.{outs_of}
use Rattle.run_plan.proofs.command.outs_of.Given as goal

abbrev pub invariant-loop-part : goal.invariant-loop-part
invariant-loop-part l = l.outs ++ outs_of (drop l.part-index l.parts) ≡ outs_of l.parts
