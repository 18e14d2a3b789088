use Rattle.std.proofs.Common.{◌≡◌, map, nat_cmp, rules}
use Rattle.std.specs.Prelude.{string_bytes}
use Rattle.std.specs.BTreeMap.{keys}
use Rattle.std.specs.Cmp.Lexicographic.{slice_cmp}
use Rattle.json_view.proofs.Keys.{sorted-map}
use Rattle.json_view.proofs.look.keys_of.Goals as goal

pub returns-clause-ascending : goal.returns-clause-ascending
returns-clause-ascending c =
    let all : c.loop-key.keys ≡ map string_bytes (keys c.args.members.now) = search rules in
    rw all (sorted-map string_bytes (slice_cmp nat_cmp) _ c.keys-key-items.ensures.ordered)
