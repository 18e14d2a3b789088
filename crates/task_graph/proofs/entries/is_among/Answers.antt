use Rattle.std.proofs.Common.{◌≡◌, ℕ, List, [], ◌∷◌, map, refl, sym, ap, ◌∙◌, subst}
use Rattle.std.specs.List.Sorted.{IsStrictlySortedBy}
use Rattle.std.specs.List.{list_any}
use Rattle.std.specs.BTreeMap.{is_at}
use Rattle.std.specs.Cmp.Lexicographic.{nat_list_cmp_total}
use Rattle.rel_path.specs.Paths.{name_cmp}
use Rattle.task_graph.proofs.Named.{name_tied}
use Rattle.task_graph.proofs.Searching.{searchable, none_at, any_found, none_found}
use Rattle.task_graph.proofs.entries.is_among.Goals as goal

same : (xs : List (List ℕ)) → map (λ x. x) xs ≡ xs
same [] = refl
same (x ∷ xs) = ap (λ ys. x ∷ ys) (same xs)

pub returns-in-Ok : goal.returns-in-Ok
returns-in-Ok c =
    let names = c.args.names.now in
    let name = c.args.name.now in
    sym (ap (list_any (is_at (name_cmp name))) (sym (same names)) ∙ any_found (λ x. x) name_cmp nat_list_cmp_total name_tied name names c.in-Ok.field-0 name c.in-Ok.ensures.bound (c.in-Ok.ensures.position name))

pub returns-in-Err : goal.returns-in-Err
returns-in-Err c =
    let names = c.args.names.now in
    let name = c.args.name.now in
    let up = searchable (λ x. x) name_cmp nat_list_cmp_total name_tied name names (subst (λ ns. IsStrictlySortedBy name_cmp ns) (sym (same names)) c.requires) in
    sym (ap (list_any (is_at (name_cmp name))) (sym (same names)) ∙ none_found (λ x. x) name_cmp nat_list_cmp_total name_tied name names (none_at (λ x. x) name_cmp nat_list_cmp_total name_tied name names c.in-Err.field-0 (c.in-Err.ensures.position up)))
