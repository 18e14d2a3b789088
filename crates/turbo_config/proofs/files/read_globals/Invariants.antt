use Rattle.std.proofs.Common.{◌≡◌}
use Rattle.serde_json.specs.View.{members_view}
use Rattle.turbo_config.specs.Files.{no_globals, with_top_members}
use Rattle.turbo_config.proofs.files.read_globals.Given as goal

-- the members that are left lead from the keys so far to all
abbrev pub invariant-loop-name : goal.invariant-loop-name
invariant-loop-name l = with_top_members (members_view l.name-iterator) l.globals ≡ with_top_members (members_view l.initial.name-iterator) no_globals
