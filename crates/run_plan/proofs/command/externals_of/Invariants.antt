use Rattle.std.proofs.Common.{◌≡◌, ◌++◌, drop}
use Rattle.run_plan.specs.Commands.{externals_of}
use Rattle.run_plan.proofs.command.externals_of.Given as goal

abbrev pub invariant-loop-part : goal.invariant-loop-part
invariant-loop-part l = l.all ++ externals_of (drop l.part-index l.parts) ≡ externals_of l.parts
