use Rattle.std.proofs.Common.{◌≡◌, []}
use Rattle.serde_json.specs.View.{members_view}
use Rattle.turbo_config.specs.Tasks.{with_tasks}
use Rattle.turbo_config.proofs.tasks.read_members.Given as goal

-- the members that are left lead from the tasks so far to all
abbrev pub invariant-loop-key : goal.invariant-loop-key
invariant-loop-key l = with_tasks l.file (members_view l.key-iterator) l.tasks ≡ with_tasks l.file (members_view l.initial.key-iterator) []
