-- Packages of which some stay: they read as before, and are refused for nothing.
use Rattle.std.proofs.Common.{◌≡◌, ◌⊎◌, inl, inr, Bool, true, false, cond, List, [], ◌∷◌, filter, refl, sym, ap, ◌∙◌, subst}
use Rattle.std.specs.Prelude.{Some, None, Ok}
use Rattle.std.specs.List.{AllByRecursion}
use Rattle.std.specs.List.Sorted.{IsStrictlySortedBy}
use Rattle.std.specs.declared.cmp.Ordering.TheVariants.{Less}
use Rattle.rel_path.specs.Paths.{Path, path_cmp}
use Rattle.rel_path.specs.Files.{FileMap}
use Rattle.rel_path.specs.Limits.{file_limit}
use Rattle.tree_dev.specs.Tree.{within}
use Rattle.workspaces.specs.declared.member.Package.{Package}
use Rattle.workspaces.specs.declared.error.SpaceErr.TheVariants.{Inside, NameTwice}
use Rattle.workspaces.specs.Reading.{DifferByFolder}
use Rattle.workspaces.specs.Space.{AreApart, is_proper, lies_below, manifest_in, package_at, packages_at, and_more, inside_fault, twice_fault}
use Rattle.workspaces.specs.Steps.{AscendingNames}
use Rattle.workspaces.proofs.Apart.{AnyApart}
use Rattle.pruned_reading.proofs.Ascending.{path_not_less, lesser_differs}
use Rattle.pruned_reading.proofs.Found.{IsOneMore, next_read, AreThere}

-- ---- packages read from some of the folders

module _ (files after : FileMap) (set : Path → Bool) where
  abbrev stays_in : Package → Bool
  stays_in p = set p.folder

  -- the manifest is as it was, where the folder stays
  abbrev pub IsSame : Path → Type 0
  IsSame folder = set folder ≡ true → after (manifest_in folder) ≡ files (manifest_in folder)

  -- the first package, and those behind it
  abbrev IsNext : Path → List Path → List Package → Type 0
  IsNext f fs found = IsOneMore f (package_at f (within file_limit (files (manifest_in f)))) (packages_at files fs) found

  pub packages_stay : (folders : List Path) (found : List Package) → packages_at files folders ≡ Ok found → AreThere files folders → AllByRecursion IsSame folders → packages_at after (filter set folders) ≡ Ok (filter stays_in found)
  unfolding packages_at
  packages_stay [] found e all same = let none : [] ≡ found = cc in ap (λ ps. Ok (filter stays_in ps)) none
  packages_stay (f ∷ fs) found e all same =
      let n = next_read f (files (manifest_in f)) (packages_at files fs) found e all.0 in
      by n (packages_stay fs n.rest n.more_is all.1 same.1) (set f) refl
    where
      split : (n : IsNext f fs found) (b : Bool) → set f ≡ b → filter stays_in found ≡ cond b (n.first ∷ filter stays_in n.rest) (filter stays_in n.rest)
      split n b k = ap (filter stays_in) n.is ∙ ap (λ t. cond t (n.first ∷ filter stays_in n.rest) (filter stays_in n.rest)) (ap set n.folder_is ∙ k)

      by : (n : IsNext f fs found) → packages_at after (filter set fs) ≡ Ok (filter stays_in n.rest) → (b : Bool) → set f ≡ b → packages_at after (cond b (f ∷ filter set fs) (filter set fs)) ≡ Ok (filter stays_in found)
      by n later true k =
          let one : package_at f (within file_limit (after (manifest_in f))) ≡ Ok (Some n.first) = ap (λ o. package_at f (within file_limit o)) (same.0 k) ∙ n.one_is in
          (λ j. and_more (one j) (later j)) ∙ ap Ok (sym (split n true k))
      by n later false k = later ∙ ap Ok (sym (split n false k))

-- ---- the checks

pub none_inside : (packages : List Package) → DifferByFolder packages → AnyApart packages → inside_fault packages ≡ None
unfolding inside_fault IsStrictlySortedBy
none_inside [] up apart = refl
none_inside (p ∷ []) up apart = refl
none_inside (p ∷ q ∷ packages) up apart =
    ap (λ b. cond b (Some (Inside p.folder q.folder)) (inside_fault (q ∷ packages))) (outside (apart p q (inl refl) (inr (inl refl))))
    ∙ none_inside (q ∷ packages) up.1 (λ x y a b. apart x y (inr a) (inr b)) where
      outside : (p ≡ q) ⊎ AreApart p.folder q.folder → lies_below q.folder p.folder ≡ false
      outside (inl same) = absurd (path_not_less q.folder (subst (λ (m : Package). path_cmp m.folder q.folder ≡ Less) same up.0.0))
      outside (inr both) = ap is_proper both.0

pub none_twice : (packages : List Package) → AscendingNames packages → twice_fault packages ≡ None
unfolding twice_fault IsStrictlySortedBy
none_twice [] up = refl
none_twice (p ∷ []) up = refl
none_twice (p ∷ q ∷ packages) up =
    ap (λ b. cond b (Some (NameTwice p.name p.folder q.folder)) (twice_fault (q ∷ packages))) (lesser_differs p.name q.name up.0.0)
    ∙ none_twice (q ∷ packages) up.1
