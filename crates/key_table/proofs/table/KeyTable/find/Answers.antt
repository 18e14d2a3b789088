use Rattle.std.proofs.Common.{◌≡◌, ◌∙◌, map, is_some, sym, ap}
use Rattle.key_table.specs.Entry.{entry_named}
use Rattle.key_table.proofs.Distinct.{entry_named_exact, none_named_exact, is_some-option_map}
use Rattle.key_table.proofs.table.KeyTable.find.Goals as goal

pub returns-clause-one : goal.returns-clause-one
returns-clause-one g c =
    let view : c.args.self.now ≡ map g.R.AsEntry.entry c.self.inside.rows = sym c.self.view_is in
    rw (c.first_named.ensures, view) (entry_named_exact c.args.name.now (map g.R.AsEntry.entry c.self.inside.rows) c.self.invariant)

pub returns-clause-none : goal.returns-clause-none
returns-clause-none g c =
    let view : c.args.self.now ≡ map g.R.AsEntry.entry c.self.inside.rows = sym c.self.view_is in
    let found : is_some c.first_named.result ≡ is_some (entry_named c.args.name.now (map g.R.AsEntry.entry c.self.inside.rows)) =
    sym (is_some-option_map g.R.AsEntry.entry c.first_named.result) ∙ ap is_some c.first_named.ensures in
    rw (found, view) (none_named_exact c.args.name.now (map g.R.AsEntry.entry c.self.inside.rows))
