use Rattle.std.proofs.Common.{take}
use Rattle.collect.specs.Listings.{ArePaired}
use Rattle.collect.specs.Steps.{lock_in, UsesAt, AreKnown}
use Rattle.collect.proofs.uses.each_uses.Given as goal

abbrev pub invariant-loop-task : goal.invariant-loop-task
invariant-loop-task l = record {
  known : AreKnown l.packages (lock_in l.installed) l.known.items;
  uses : ArePaired (λ t pairs. UsesAt l.packages (lock_in l.installed) t.owner pairs) (take l.task-index l.tasks) l.uses.items;
}
