-- Packages in folder order, put in the order of their names.
use Rattle.std.proofs.Common.{◌≡◌, ◌≢◌, ◌&&◌, inl, inr, ℕ, ◌≤◌, Bool, true, false, cond, List, [], ◌∷◌, map, refl, sym, ap, ◌∙◌, subst, arith}
use Rattle.std.specs.Prelude.{sum_by}
use Rattle.std.specs.List.{AllByRecursion, dedup, dedup_from}
use Rattle.std.specs.List.Sorted.{IsStrictlySortedBy, IsSorted, IsPermutation}
use Rattle.std.specs.declared.cmp.Ordering.{Ordering}
use Rattle.std.specs.declared.cmp.Ordering.TheVariants.{Less, Equal, Greater}
use Rattle.std.specs.Ordering.{is_eq, ordering_then}
use Rattle.std.proofs.lemmas.List.Kept.{IsStrictlySortedBy-dedup}
use Rattle.std.proofs.lemmas.List.Sorted.{Contains-permutation, IsPermutation-sym, sum_by-IsPermutation}
use Rattle.std.proofs.lemmas.List.Sums.{sum_by-cons}
use Rattle.rel_path.specs.Paths.{Path, name_eq, path_eq, name_cmp, path_cmp}
use Rattle.rel_path.proofs.PathLaws.{path_same, path_self, path_other, path_ties, path_cmp_self}
use Rattle.workspaces.specs.declared.member.Package.{Package}
use Rattle.workspaces.specs.Lists.{ascending, Has}
use Rattle.workspaces.specs.Order.{package_cmp, same_place, package_total, packages_tie}
use Rattle.workspaces.specs.Reading.{DifferByFolder}
use Rattle.workspaces.proofs.Order.{Has-from, Contains-from, all_has, same_ascending, sorted-ascending, has-ascending, ascending-has}

and_second : (a b : Bool) → (a && b) ≡ true → b ≡ true
and_second true b e = e
and_second false b e = cc

-- how many stand in a folder
abbrev stands : Path → Package → ℕ
stands f p = cond (path_eq p.folder f) 1 0

abbrev count_in : Path → List Package → ℕ
count_in f ps = sum_by (stands f) ps

apart : (a b : Path) → path_cmp a b ≡ Less → a ≢ b
apart a b less same = let self : path_cmp b b ≡ Equal = path_cmp_self b in let below : path_cmp b b ≡ Less = subst (λ w. path_cmp w b ≡ Less) same less in cc

none_later : (f : Path) (ps : List Package) → AllByRecursion (λ g. path_cmp f g ≡ Less) (map (λ (p : Package). p.folder) ps) → count_in f ps ≡ 0
none_later f [] all = refl
none_later f (p ∷ ps) all =
    let other : stands f p ≡ 0 = rw (path_other p.folder f (λ same. apart f p.folder all.0 (sym same))) refl in
    omega (arith, sum_by-cons (stands f) p ps, other, none_later f ps all.1)

at_most_one : (t : Bool) → cond t 1 0 ≤ 1
at_most_one true = omega arith
at_most_one false = omega arith

-- folders that ascend stand once
once : (f : Path) (ps : List Package) → DifferByFolder ps → count_in f ps ≤ 1
unfolding IsStrictlySortedBy
once f [] up = omega arith
once f (p ∷ ps) up = by (path_eq p.folder f) refl (once f ps up.1) where
  by : (t : Bool) → path_eq p.folder f ≡ t → count_in f ps ≤ 1 → count_in f (p ∷ ps) ≤ 1
  by true e later =
      let rest : count_in f ps ≡ 0 = subst (λ g. count_in g ps ≡ 0) (path_same p.folder f e) (none_later p.folder ps up.0) in
      omega (arith, sum_by-cons (stands f) p ps, rest, at_most_one (path_eq p.folder f))
  by false e later = let none : stands f p ≡ 0 = rw e refl in omega (arith, sum_by-cons (stands f) p ps, none, later)

-- where each folder stands once there is nothing to leave out
keep : (k : Package) (ps : List Package) → ((f : Path) → count_in f (k ∷ ps) ≤ 1) → dedup_from same_place k ps ≡ k ∷ ps
keep k [] few = refl
keep k (p ∷ ps) few = by (same_place p k) refl (keep p ps (λ f. omega (arith, sum_by-cons (stands f) k (p ∷ ps), few f))) where
  by : (t : Bool) → same_place p k ≡ t → dedup_from same_place p ps ≡ p ∷ ps → cond t (dedup_from same_place k ps) (k ∷ dedup_from same_place p ps) ≡ k ∷ p ∷ ps
  by true e later =
      let folders : path_eq p.folder k.folder ≡ true = and_second (name_eq p.name k.name) (path_eq p.folder k.folder) e in
      let first : stands k.folder k ≡ 1 = rw path_self refl in
      let second : stands k.folder p ≡ 1 = rw folders refl in
      absurd (omega (arith, few k.folder, sum_by-cons (stands k.folder) k (p ∷ ps), sum_by-cons (stands k.folder) p ps, first, second))
  by false e later = ap (λ xs. k ∷ xs) later

all_kept : (ps : List Package) → ((f : Path) → count_in f ps ≤ 1) → dedup same_place ps ≡ ps
all_kept [] few = refl
all_kept (p ∷ ps) few = keep p ps few

-- of packages with folders that ascend, two in one folder are one
folder_among : (ps : List Package) (q : Package) → Has ps q → Has (map (λ (p : Package). p.folder) ps) q.folder
folder_among [] q has = absurd has
folder_among (p ∷ ps) q (inl here) = inl (ap (λ (r : Package). r.folder) here)
folder_among (p ∷ ps) q (inr later) = inr (folder_among ps q later)

one_package : (ps : List Package) → DifferByFolder ps → (x y : Package) → Has ps x → Has ps y → x.folder ≡ y.folder → x ≡ y
unfolding IsStrictlySortedBy
one_package [] up x y first second same = absurd first
one_package (p ∷ ps) up x y (inl here) (inl there) same = sym here ∙ there
one_package (p ∷ ps) up x y (inl here) (inr later) same = absurd (apart p.folder y.folder (all_has (λ g. path_cmp p.folder g ≡ Less) (map (λ (q : Package). q.folder) ps) y.folder up.0 (folder_among ps y later)) (ap (λ (q : Package). q.folder) here ∙ same))
one_package (p ∷ ps) up x y (inr later) (inl there) same = absurd (apart p.folder x.folder (all_has (λ g. path_cmp p.folder g ≡ Less) (map (λ (q : Package). q.folder) ps) x.folder up.0 (folder_among ps x later)) (ap (λ (q : Package). q.folder) there ∙ sym same))
one_package (p ∷ ps) up x y (inr later) (inr more) same = one_package ps up.1 x y later more same

then_equal : (a b : Ordering) → ordering_then a b ≡ Equal → b ≡ Equal
then_equal Less b e = cc
then_equal Equal b e = e
then_equal Greater b e = cc

pub sorted_is : (ps sorted : List Package) → DifferByFolder ps → IsPermutation ps sorted → IsSorted package_cmp sorted → sorted ≡ ascending package_cmp ps
sorted_is ps sorted up moved order =
    let whole : dedup same_place sorted ≡ sorted = all_kept sorted (λ f. omega (arith, sum_by-IsPermutation (stands f) ps sorted moved, once f ps up)) in
    sym whole ∙
    same_ascending package_cmp package_total (dedup same_place sorted) (ascending package_cmp ps) (IsStrictlySortedBy-dedup package_total packages_tie sorted order) (sorted-ascending package_cmp package_total ps)
    (λ z has. ascending-has package_cmp package_total ps (λ x y p q tied. one_package ps up x y p q (path_tied x.folder y.folder (then_equal (name_cmp x.name y.name) (path_cmp x.folder y.folder) tied)))
    z (Has-from ps z (Contains-permutation sorted ps z (IsPermutation-sym ps sorted moved) (Contains-from sorted z (subst (λ zs. Has zs z) whole has)))))
    (λ z has. subst (λ zs. Has zs z) (sym whole) (Has-from sorted z (Contains-permutation ps sorted z moved (Contains-from ps z (has-ascending package_cmp package_total ps z has)))))
  where
    path_tied : (a b : Path) → path_cmp a b ≡ Equal → a ≡ b
    path_tied a b e = path_same a b (path_ties a b ∙ ap is_eq e)
