use Rattle.std.proofs.Common.{sym, ◌∙◌}
use Rattle.std.specs.Cmp.Lexicographic.{nat_list_eq_equiv}
use Rattle.std.specs.List.{list_any}
use Rattle.std.specs.BTreeSet.{contains}
use Rattle.rel_path.specs.Paths.{name_cmp}
use Rattle.env_select.specs.Patterns.{spells_name}
use Rattle.env_select.proofs.Names.{ties}
use Rattle.env_select.proofs.Plain.{name_added, plain_spells}
use Rattle.env_select.proofs.patterns.Patterns.add.Goals as goal

pub returns-in_ok-insert : goal.returns-in_ok-insert
returns-in_ok-insert c = λ name.
    let text = c.args.text.now in
    let updates = rw c.in_ok-name.ensures.value at c.in_ok-insert.ensures.updates in
    let plain = plain_spells text name (sym c.is_wild.ensures ∙ c.if-is_wild.false) in
    let same = sym (ties text name) ∙ nat_list_eq_equiv.symm text name in
    rw (updates.0 name, plain, same) (name_added _ (contains name_cmp c.args.self.now.names name) (list_any (λ signs. spells_name signs name) c.args.self.now.wild.items))
