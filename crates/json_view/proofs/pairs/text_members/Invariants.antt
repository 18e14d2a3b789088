use Rattle.std.proofs.Common.{◌≡◌, ◌++◌}
use Rattle.serde_json.specs.View.{members_view}
use Rattle.json_view.specs.Pairs.{text_members}
use Rattle.json_view.proofs.pairs.text_members.Given as goal

abbrev pub invariant-loop-name : goal.invariant-loop-name
invariant-loop-name l = l.pairs ++ text_members (members_view l.name-iterator) ≡ text_members (members_view l.members.entries)
