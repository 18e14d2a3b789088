use Rattle.std.proofs.Common.{◌≡◌, take, map}
use Rattle.ignore_rules.specs.Ignored.{is_ignored}
use Rattle.ignore_rules.specs.Stacks.{rules_in}
use Rattle.workspaces.specs.Space.{owners}
use Rattle.task_inputs.specs.Inputs.{input_row}
use Rattle.task_inputs.specs.WideLists.{AreWide}
use Rattle.task_inputs.proofs.inputs.input_places.Given as goal

-- the rows so far, and what the lists so far take
abbrev pub invariant-loop-task : goal.invariant-loop-task
invariant-loop-task l = record {
  rows : l.rows.items ≡ map (input_row (is_ignored (rules_in l.ignores)) l.config (owners l.packages) l.walk) (take l.task-index l.tasks);
  lists : AreWide l.walk l.lists.items;
}
