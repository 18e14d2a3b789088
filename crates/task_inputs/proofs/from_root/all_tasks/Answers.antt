use Rattle.std.proofs.Common.{refl, get_or}
use Rattle.workspaces.specs.Space.{owners}
use Rattle.task_inputs.proofs.Kept.{kept_next}
use Rattle.task_inputs.proofs.from_root.all_tasks.Goals as goal

pub loop-owner-preserved : goal.loop-owner-preserved
loop-owner-preserved c =
    kept_next c.args.config.now (owners c.args.packages.now) c.args.names.now c.args.kept.now c.loop-owner.owner-index (get_or c.args.kept.now c.loop-owner.owner-index 0) c.loop-owner.tasks.items c.in_ok-tasks_of.field-0.items c.add_all.new.tasks.items
    c.loop-owner-test.true refl c.loop-owner.invariant c.in_ok-tasks_of.ensures.tasks c.in_ok-add_all.ensures.added
