-- The order of packages.
use Rattle.std.specs.Prelude.{◌≡◌, Bool, ◌&&◌, Some}
use Rattle.std.proofs.Common.{sym, ◌∙◌}
use Rattle.std.proofs.lemmas.Cmp.{eq_by_cmp_equiv}
use Rattle.std.specs.Cmp.{IsTotalOrder, IsEquivalence, IsPartialOrder, then_total, on_total, both_tied, po}
use Rattle.std.specs.Cmp.Lexicographic.{slice_cmp, nat_list_cmp_total, lists_total, texts_ties, lists_ties}
use Rattle.std.specs.declared.cmp.Ordering.{Ordering}
use Rattle.std.specs.Ordering.{ordering_then, nat_cmp, eq_by_cmp}
use Rattle.rel_path.specs.Paths.{name_eq, path_eq, name_cmp, path_cmp}
use Rattle.workspaces.specs.declared.member.Package.{Package}

-- by name, and packages of one name by folder
abbrev pub package_cmp : Package → Package → Ordering
package_cmp p q = ordering_then (name_cmp p.name q.name) (path_cmp p.folder q.folder)

-- one name and one folder
abbrev pub same_place : Package → Package → Bool
same_place p q = name_eq p.name q.name && path_eq p.folder q.folder

-- ---- that they are an order and an equality

pub package_total : IsTotalOrder package_cmp
package_total = then_total (on_total (λ (p : Package). p.name) nat_list_cmp_total) (on_total (λ (p : Package). p.folder) (lists_total nat_list_cmp_total))

pub packages_tie : (p q : Package) → same_place p q ≡ eq_by_cmp package_cmp p q
packages_tie p q =
    both_tied (name_eq p.name q.name) (path_eq p.folder q.folder) (name_cmp p.name q.name) (path_cmp p.folder q.folder) (texts_ties p.name q.name) (lists_ties (slice_cmp nat_cmp) texts_ties p.folder q.folder)

pub same_place_equiv : IsEquivalence same_place
same_place_equiv = record {
  refl = λ p. packages_tie p p ∙ (eq_by_cmp_equiv package_total).refl p;
  symm = λ p q. packages_tie p q ∙ ((eq_by_cmp_equiv package_total).symm p q ∙ sym (packages_tie q p));
  congr = λ p q r e. packages_tie p r ∙ ((eq_by_cmp_equiv package_total).congr p q r (sym (packages_tie p q) ∙ e) ∙ sym (packages_tie q r));
}

pub package_po : IsPartialOrder same_place (λ p q. Some (package_cmp p q))
package_po = po package_total packages_tie
