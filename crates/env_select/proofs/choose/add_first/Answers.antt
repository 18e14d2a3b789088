use Rattle.std.proofs.Common.{sym, ◌∙◌}
use Rattle.std.specs.BTreeMap.{get}
use Rattle.rel_path.specs.Paths.{name_cmp}
use Rattle.env_select.proofs.Values.{added}
use Rattle.env_select.proofs.choose.add_first.Goals as goal

pub returns-in_ok-insert : goal.returns-in_ok-insert
returns-in_ok-insert c = λ name.
    let none = sym c.contains_key-known.ensures ∙ c.if-not-known.true in
    let updates = rw (c.in_ok-copy.ensures.value, c.in_ok-copy-2.ensures.value) at c.in_ok-insert.ensures.updates in
    added name c.args.pair.now.0 c.args.pair.now.1 (get name_cmp c.args.values.now) (get name_cmp c.insert.new.self) none updates.1 updates.2
