use Rattle.std.proofs.Common.{◌≡◌, subst}
use Rattle.std.specs.Prelude.{Some}
use Rattle.task_definitions.specs.Setup.{task_def}
use Rattle.turbo_config.specs.declared.task_id.TaskId.{TaskId}
use Rattle.collect.proofs.Lists.{paired_next}
use Rattle.planner.proofs.definitions.defs_of.Goals as goal

pub loop-id-preserved : goal.loop-id-preserved
loop-id-preserved c =
    let config = c.args.config.now in
    rw c.in-Ok.ensures.pushed (paired_next (λ (id : TaskId) def. task_def config id.«package» id.task ≡ Some def) c.args.ids.now c.loop-id.id-index c.id-item.result c.loop-id.defs c.in_ok-def_of.field-0 c.loop-id-test.true c.loop-id.invariant
    (subst (λ (id : TaskId). task_def config id.«package» id.task ≡ Some c.in_ok-def_of.field-0) c.id-item.is c.in_ok-def_of.ensures.value))
