use Rattle.std.proofs.Common.{List, ℕ, sym, rules, get_or}
use Rattle.std.proofs.lemmas.Fn.{always_returns_same}
use Rattle.rel_path.specs.Paths.{name_cmp}
use Rattle.workspaces.proofs.Names.{text_none, text_named, none_named, searchable, name_tied}
use Rattle.workspaces.proofs.lookup.text_by.Goals as goal

pub returns-in-Ok : goal.returns-in-Ok
returns-in-Ok c =
    let by = λ (p : List ℕ × List ℕ). name_cmp p.0 c.args.name.now in
    let h = c.in-Ok.ensures.position by (always_returns_same _ _ _ (λ a r g h. (search rules, search rules))) in
    let pairs = c.as_slice-pairs.result.now in
    let d = c.index-pairs-place.result in
    rw (← c.as_slice-pairs.ensures) (sym (text_named c.args.name.now pairs (rw c.as_slice-pairs.ensures c.requires) c.in-Ok.place d c.in-Ok.ensures.bound (name_tied (get_or pairs c.in-Ok.place d).0 c.args.name.now (h d))))

pub returns-in-Err : goal.returns-in-Err
returns-in-Err c =
    let by = λ (p : List ℕ × List ℕ). name_cmp p.0 c.args.name.now in
    let h = c.in-Err.ensures.position by (always_returns_same _ _ _ (λ a r g h. (search rules, search rules))) in
    let none = none_named (λ (p : List ℕ × List ℕ). p.0) c.args.name.now c.as_slice-pairs.result.now c.in-Err.field-0 (h (searchable (λ (p : List ℕ × List ℕ). p.0) c.args.name.now c.as_slice-pairs.result.now (rw c.as_slice-pairs.ensures c.requires))) in
    rw (← c.as_slice-pairs.ensures) (sym (text_none c.args.name.now c.as_slice-pairs.result.now none))
