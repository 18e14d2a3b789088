use Rattle.task_inputs.proofs.Rows.{homes_below}
use Rattle.task_inputs.proofs.table.table_of.Goals as goal

pub near_places-requires-clause-below : goal.near_places-requires-clause-below
near_places-requires-clause-below c = rw (c.count.ensures.value, c.as_slice.ensures.value, c.in_ok-files.ensures.facts) (homes_below _ c.args.declared.now c.args.globals.now c.args.walk.now)
