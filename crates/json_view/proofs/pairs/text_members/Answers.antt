use Rattle.std.proofs.Common.{◌≡◌, nat_cmp, rules}
use Rattle.std.specs.Prelude.{string_bytes}
use Rattle.std.specs.Cmp.Lexicographic.{slice_cmp}
use Rattle.serde_json.specs.View.{members_view}
use Rattle.json_view.specs.Pairs.{text_members}
use Rattle.json_view.proofs.Keys.{sorted-map, texts_sorted}
use Rattle.json_view.proofs.pairs.text_members.Goals as goal

pub returns-clause-ascending : goal.returns-clause-ascending
returns-clause-ascending c =
    let all : c.loop-name.pairs ≡ text_members (members_view c.args.members.now.entries) = search rules in
    rw all (texts_sorted _ (sorted-map string_bytes (slice_cmp nat_cmp) _ c.iter-name-items.ensures.ordered))
