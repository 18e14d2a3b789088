-- The packages of a workspace, by what was found of them.
use Rattle.std.proofs.Common.{◌≡◌, ◌⊎◌, inl, inr, ℕ, Bool, true, false, cond, List, [], ◌∷◌, map, refl, sym, ap, ◌∙◌}
use Rattle.std.specs.Prelude.{Some, None, Result, Ok, Err, IfOk, bytes_eq}
use Rattle.std.specs.List.{AllByRecursion}
use Rattle.std.specs.List.Sorted.{IsStrictlySortedBy}
use Rattle.std.specs.declared.cmp.Ordering.{Ordering}
use Rattle.std.specs.declared.cmp.Ordering.TheVariants.{Less, Equal, Greater}
use Rattle.std.specs.Ordering.{ordering_then}
use Rattle.std.specs.Cmp.Lexicographic.{nat_list_cmp_total}
use Rattle.std.proofs.lemmas.Bool.{false≢true}
use Rattle.rel_path.specs.Paths.{Path, name_cmp, path_cmp}
use Rattle.rel_path.specs.Files.{FileMap}
use Rattle.manifest.specs.declared.manifest.Manifest.{Manifest}
use Rattle.manifest.specs.Manifest.{AreAscending}
use Rattle.workspaces.specs.declared.member.Package.{Package}
use Rattle.workspaces.specs.declared.error.SpaceErr.{SpaceErr}
use Rattle.workspaces.specs.declared.error.SpaceErr.TheVariants.{OutOfMemory, Failed, NameTwice}
use Rattle.workspaces.specs.Lists.{ascending}
use Rattle.workspaces.specs.Order.{package_cmp, package_total}
use Rattle.workspaces.specs.Entries.{globs_of, globs_fault}
use Rattle.workspaces.specs.Space.{Space, folders_in, packages_at, twice_fault, checks_fault, space_of, Discovers}
use Rattle.workspaces.specs.Reading.{AreReadIn}
use Rattle.workspaces.specs.Steps.{OnlyMemory, MayRefuse, AscendingNames}
use Rattle.workspaces.proofs.Order.{all_from, all_has, has-ascending}
use Rattle.workspaces.proofs.Names.{name_tied, self_name}

module _ (files : FileMap) (walk : List Path) (root : Manifest) where
  pub bad_globs : (e : SpaceErr) → MayRefuse (globs_fault root) e → Discovers (space_of files walk root) (Err e)
  unfolding space_of
  bad_globs e (inl memory) = inl memory
  bad_globs e (inr is) = inr (inr (rw is refl))

  module _ (folders : List Path) (fine : globs_fault root ≡ None) (are : folders ≡ folders_in (globs_of root) walk) where
    pub bad_read : (e : SpaceErr) → (e ≡ OutOfMemory) ⊎ ((e ≡ Failed) ⊎ (packages_at files folders ≡ Err e)) → Discovers (space_of files walk root) (Err e)
    unfolding space_of
    bad_read e (inl memory) = inl memory
    bad_read e (inr (inl failed)) = inr (inl failed)
    bad_read e (inr (inr is)) = inr (inr (rw (fine, ← are, is) refl))

    pub bad_check : (packages : List Package) (e : SpaceErr) → packages_at files folders ≡ Ok packages → MayRefuse (checks_fault packages) e → Discovers (space_of files walk root) (Err e)
    unfolding space_of
    bad_check packages e found (inl memory) = inl memory
    bad_check packages e found (inr is) = inr (inr (rw (fine, ← are, found, is) refl))

    pub whole : (packages : List Package) → packages_at files folders ≡ Ok packages → checks_fault packages ≡ None → space_of files walk root ≡ Ok (record { root = root; packages = ascending package_cmp packages })
    unfolding space_of
    whole packages found none = rw (fine, ← are, found, none) refl

-- ---- names

lesser_name : (p q : Package) → package_cmp p q ≡ Less → bytes_eq p.name q.name ≡ false → name_cmp p.name q.name ≡ Less
lesser_name p q less apart = by (name_cmp p.name q.name) refl less where
  by : (o : Ordering) → name_cmp p.name q.name ≡ o → ordering_then o (path_cmp p.folder q.folder) ≡ Less → o ≡ Less
  by Less e first = refl
  by Equal e first = let same : p.name ≡ q.name = name_tied p.name q.name e in absurd (false≢true (sym apart ∙ (ap (λ n. bytes_eq p.name n) (sym same) ∙ self_name p.name)))
  by Greater e first = cc

further : (a b : List ℕ) (names : List (List ℕ)) → name_cmp a b ≡ Less → AllByRecursion (λ n. name_cmp b n ≡ Less) names → AllByRecursion (λ n. name_cmp a n ≡ Less) names
further a b names less all = all_from (λ n. name_cmp a n ≡ Less) names (λ n has. nat_list_cmp_total.trans a b n less (all_has (λ m. name_cmp b m ≡ Less) names n all has))

pub names_ascend : (packages : List Package) → IsStrictlySortedBy package_cmp packages → twice_fault packages ≡ None → AscendingNames packages
unfolding twice_fault IsStrictlySortedBy
names_ascend [] up none = tt
names_ascend (p ∷ []) up none = (tt, tt)
names_ascend (p ∷ q ∷ packages) up none = by (bytes_eq p.name q.name) refl none (names_ascend (q ∷ packages) up.1) where
  by : (t : Bool) → bytes_eq p.name q.name ≡ t → cond t (Some (NameTwice p.name p.folder q.folder)) (twice_fault (q ∷ packages)) ≡ None → (twice_fault (q ∷ packages) ≡ None → AscendingNames (q ∷ packages)) → AscendingNames (p ∷ q ∷ packages)
  by true e later inner = cc
  by false e later inner =
      let first : name_cmp p.name q.name ≡ Less = lesser_name p q up.0.0 e in
      let rest = inner later in
      ((first, further p.name q.name (map (λ (r : Package). r.name) packages) first rest.0), rest)

pub maps_ascend : (folders : List Path) (packages : List Package) → AreReadIn folders packages → AllByRecursion (λ m. AreAscending m.manifest) (ascending package_cmp packages)
maps_ascend folders packages read = all_from (λ (m : Package). AreAscending m.manifest) (ascending package_cmp packages) (λ m has. read.maps m (has-ascending package_cmp package_total packages m has))

-- ---- the end

pub all_found : (meant : Result Space SpaceErr) (space : Space) (result : Result Space SpaceErr) → meant ≡ Ok space → IfOk result (λ s. s ≡ space) → OnlyMemory result → Discovers meant result
all_found meant space (Ok s) is found memory = is ∙ ap Ok (sym found)
all_found meant space (Err e) is found memory = inl memory
