-- Paths in ascending order, and what holds of each of them.
use Rattle.std.proofs.Common.{◌≡◌, ℕ, suc, ◌+◌, ◌<◌, List, [], ◌∷◌, length, get_or, drop, drop-cons, map, ap, ◌∙◌, subst, sym, refl, arith}
use Rattle.std.specs.BTreeSet.{insert_key}
use Rattle.std.specs.List.{AllByRecursion}
use Rattle.std.specs.Ordering.{match_ordering, is_eq}
use Rattle.std.specs.declared.cmp.Ordering.{Ordering}
use Rattle.std.specs.declared.cmp.Ordering.TheVariants.{Less, Equal, Greater}
use Rattle.std.proofs.lemmas.List.{drop_all}
use Rattle.rel_path.specs.Paths.{Path, path_cmp}
use Rattle.rel_path.proofs.PathLaws.{path_same, path_ties}
use Rattle.workspaces.specs.declared.member.Package.{Package}
use Rattle.workspaces.specs.Lists.{put_in, ascending}

-- ---- the folders of packages, one after another

put_same : (paths : List Path) (path : Path) → insert_key path_cmp paths path ≡ put_in path_cmp path paths
put_same [] path = refl
put_same (x ∷ paths) path = ap (λ ys. match_ordering (path_cmp path x) (path ∷ x ∷ paths) (x ∷ paths) (x ∷ ys)) (put_same paths path)

abbrev folders_from : ℕ → List Package → List Path
folders_from p packages = ascending path_cmp (map (λ (m : Package). m.folder) (drop p packages))

pub folder_more : (packages : List Package) (p q : ℕ) (d : Package) (folder : Path) (old new : List Path) → p < length packages → q ≡ p + 1 → folder ≡ (get_or packages p d).folder → old ≡ folders_from q packages → new ≡ insert_key path_cmp old folder → new ≡ folders_from p packages
unfolding ascending
folder_more packages p q d folder old new lt next is before put =
    let after : q ≡ suc p = omega (arith, next) in
    put ∙ put_same old folder ∙ ap (λ f. put_in path_cmp f old) is ∙ ap (put_in path_cmp (get_or packages p d).folder) (before ∙ ap (λ k. folders_from k packages) after)
    ∙ ap (λ (ps : List Package). ascending path_cmp (map (λ (m : Package). m.folder) ps)) (sym (drop-cons packages p d lt))

pub folders_none : (packages : List Package) (p : ℕ) (paths : List Path) → p ≡ length packages → paths ≡ [] → paths ≡ folders_from p packages
unfolding ascending
folders_none packages p paths last none = none ∙ sym (ap (λ (ps : List Package). ascending path_cmp (map (λ (m : Package). m.folder) ps)) (drop_all p packages (omega (arith, last))))

-- ---- each of them

module _ (P : Path → Type 0) where
  tied : (x y : Path) → path_cmp x y ≡ Equal → P y → P x
  tied x y e holds = subst P (sym (path_same x y (path_ties x y ∙ ap is_eq e))) holds

  all_put : (x : Path) (ys : List Path) → P x → AllByRecursion P ys → AllByRecursion P (put_in path_cmp x ys)
  all_put x [] first all = (first, tt)
  all_put x (y ∷ ys) first all = by (path_cmp x y) (all_put x ys first all.1) where
    by : (r : Ordering) → AllByRecursion P (put_in path_cmp x ys) → AllByRecursion P (match_ordering r (x ∷ y ∷ ys) (y ∷ ys) (y ∷ put_in path_cmp x ys))
    by Less more = (first, all)
    by Equal more = all
    by Greater more = (all.0, more)

  put_all : (x : Path) (ys : List Path) → AllByRecursion P (put_in path_cmp x ys) → P x × AllByRecursion P ys
  put_all x [] all = (all.0, tt)
  put_all x (y ∷ ys) all = by (path_cmp x y) refl all (put_all x ys) where
    by : (r : Ordering) → path_cmp x y ≡ r → AllByRecursion P (match_ordering r (x ∷ y ∷ ys) (y ∷ ys) (y ∷ put_in path_cmp x ys)) → (AllByRecursion P (put_in path_cmp x ys) → P x × AllByRecursion P ys) → P x × AllByRecursion P (y ∷ ys)
    by Less e both more = (both.0, both.1)
    by Equal e both more = (tied x y e both.0, both)
    by Greater e both more = let rest = more both.1 in (rest.0, (both.0, rest.1))

  pub all_ascending : (xs : List Path) → AllByRecursion P xs → AllByRecursion P (ascending path_cmp xs)
  unfolding ascending
  all_ascending [] all = tt
  all_ascending (x ∷ xs) all = all_put x (ascending path_cmp xs) all.0 (all_ascending xs all.1)

  pub ascending_all : (xs : List Path) → AllByRecursion P (ascending path_cmp xs) → AllByRecursion P xs
  unfolding ascending
  ascending_all [] all = tt
  ascending_all (x ∷ xs) all = let both = put_all x (ascending path_cmp xs) all in (both.0, ascending_all xs both.1)
