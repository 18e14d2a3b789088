use Rattle.std.proofs.Common.{◌∙◌, sym, arith}
use Rattle.std.specs.Prelude.{Some, None}
use Rattle.workspaces.specs.Space.{owners}
use Rattle.task_inputs.proofs.Kept.{reads_one}
use Rattle.task_inputs.proofs.from_root.task_of.Goals as goal

pub returns-in-None-clause-read : goal.returns-in-None-clause-read
returns-in-None-clause-read c = reads_one c.args.config.now (owners c.args.packages.now) c.args.owner c.name.result.now c.args.name.now None None (omega arith) c.name.ensures (sym c.in-None.is ∙ c.in_ok-definition.ensures.value) tt

pub returns-in_ok-read_task-in-Some-clause-read : goal.returns-in_ok-read_task-in-Some-clause-read
returns-in_ok-read_task-in-Some-clause-read c =
    reads_one c.args.config.now (owners c.args.packages.now) c.args.owner c.name.result.now c.args.name.now (Some c.in-Some.def) (Some c.in_ok-read_task-in-Some.field-0) (omega arith) c.name.ensures (sym c.in-Some.is ∙ c.in_ok-definition.ensures.value) c.in_ok-read_task-in-Some.ensures.read
