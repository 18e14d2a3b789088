use Rattle.std.proofs.Common.{sym, subst, Vec, Global, List, ℕ, ◌<◌, length}
use Rattle.task_inputs.specs.declared.definitions.DefinedTask.{DefinedTask}
use Rattle.workspaces.specs.Space.{owners}
use Rattle.collect.specs.Steps.{lock_in, UsesAt}
use Rattle.collect.proofs.Lists.{paired_next, each_at}
use Rattle.collect.proofs.Installed.{uses_stop}
use Rattle.collect.proofs.uses.each_uses.Goals as goal

pub returns-in-Err-next_uses : goal.returns-in-Err-next_uses
returns-in-Err-next_uses c =
    let space = c.args.packages.now in
    uses_stop space (lock_in c.args.installed.now) (λ (us : Vec (List (List ℕ × List ℕ)) Global). us.items) c.args.tasks.now c.loop-task.task-index c.task-item.result c.loop-task.uses.items c.in-Err-next_uses.e c.loop-task-test.true (sym c.task-item.is)
    (subst (λ (t : DefinedTask). t.owner < length (owners space)) (sym c.task-item.is) (each_at (λ t. t.owner < length (owners space)) c.args.tasks.now c.loop-task.task-index c.task-item.result c.loop-task-test.true c.requires.tasks))
    c.loop-task.invariant.uses c.in-Err-next_uses.ensures.uses

pub loop-task-preserved : goal.loop-task-preserved
loop-task-preserved c =
    let space = c.args.packages.now in
    let lock = lock_in c.args.installed.now in record {
      known = c.in-Ok-next_uses.ensures.known;
      uses = rw c.in-Ok-push.ensures.items (paired_next (λ t pairs. UsesAt space lock t.owner pairs) c.args.tasks.now c.loop-task.task-index c.task-item.result c.loop-task.uses.items c.in-Ok-next_uses.pairs c.loop-task-test.true c.loop-task.invariant.uses
          (subst (λ (t : DefinedTask). UsesAt space lock t.owner c.in-Ok-next_uses.pairs) c.task-item.is c.in-Ok-next_uses.ensures.uses));
    }
