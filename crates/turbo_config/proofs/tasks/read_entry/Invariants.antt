use Rattle.std.proofs.Common.{◌≡◌}
use Rattle.serde_json.specs.View.{members_view}
use Rattle.turbo_config.specs.Entries.{no_keys}
use Rattle.turbo_config.specs.Tasks.{with_members}
use Rattle.turbo_config.proofs.tasks.read_entry.Given as goal

-- the members that are left lead from the entry so far to the whole
abbrev pub invariant-loop-name : goal.invariant-loop-name
invariant-loop-name l = with_members l.at (members_view l.name-iterator) l.entry ≡ with_members l.at (members_view l.initial.name-iterator) no_keys
