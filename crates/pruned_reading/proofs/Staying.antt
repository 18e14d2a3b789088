-- Which of the files that are read of a repository stay.
use Rattle.std.proofs.Common.{◌≡◌, ◌≢◌, ◌||◌, ◌&&◌, inl, inr, ℕ, Bool, true, false, List, [], ◌∷◌, ◌++◌, refl, sym, ap, ◌∙◌}
use Rattle.std.specs.Prelude.{not, bytes_eq}
use Rattle.std.specs.List.{list_any}
use Rattle.std.specs.Cmp.{first_so, second_so}
use Rattle.std.proofs.lemmas.Bool.{false≢true, or_cases, or_left, or_right, and_right}
use Rattle.rel_path.specs.Paths.{Path, path_eq, name_eq}
use Rattle.rel_path.proofs.PathLaws.{path_self}
use Rattle.workspaces.specs.declared.member.Package.{Package}
use Rattle.workspaces.specs.Lists.{Has}
use Rattle.workspaces.specs.Space.{IsProper, owners, is_root_folder, manifest_in, manifest_name}
use Rattle.task_inputs.specs.Homes.{is_home, is_declared}
use Rattle.task_inputs.specs.Ignores.{ignore_name, is_ignore_file}
use Rattle.task_inputs.specs.Inputs.{is_manifest, may_count}
use Rattle.task_inputs.specs.Rooted.{IsRooted}
use Rattle.repository.specs.Steps.{at_root}
use Rattle.repository.specs.Reading.{Contents, lock_name, config_name}
use Rattle.kept_packages.specs.Kept.{kept_places}
use Rattle.pruned_files.specs.Cut.{kept_owners}
use Rattle.pruned_files.specs.Pruned.{npmrc_name, is_root_file, is_ignore_above, is_own_file, is_settled, IsPrunedPath}
use Rattle.pruned_reading.proofs.Lists.{any_has, has_any, any_none, filter_has, filter_test, has_filter}
use Rattle.pruned_reading.proofs.Homes.{IsNeverOutput, inner_folder, owner, one_home, own_home, never_declared}

-- ---- paths by their last names

-- a file in a folder that is not the root's is no file of the root folder
pub not_at_root : (folder : Path) (name other : List ℕ) → folder ≢ [] → path_eq (folder ++ name ∷ []) (at_root other) ≡ false
not_at_root [] name other below = absurd (below refl)
not_at_root (f ∷ []) name other below = and_right (name_eq f other) false refl
not_at_root (f ∷ g ∷ fs) name other below = and_right (name_eq f other) false refl

no_root_file : (folder : Path) (name : List ℕ) → folder ≢ [] → is_root_file (folder ++ name ∷ []) ≡ false
no_root_file folder name below = any_none (λ other. path_eq (folder ++ name ∷ []) (at_root other)) (manifest_name ∷ config_name ∷ npmrc_name ∷ ignore_name ∷ []) (λ other has. not_at_root folder name other below)

ignore_last : (folder : Path) (name : List ℕ) → is_ignore_file (folder ++ name ∷ []) ≡ bytes_eq name ignore_name
ignore_last [] name = refl
ignore_last (f ∷ []) name = refl
ignore_last (f ∷ g ∷ fs) name = ignore_last (g ∷ fs) name

-- ---- the root's files

module _ (contents : Contents) (set : Path → Bool) where
  pub root_stays : (path : Path) → is_root_file path ≡ true → IsPrunedPath contents set path
  root_stays path e = inr (inl (or_left (is_root_file path) (is_ignore_above (kept_owners contents.space set) path || is_own_file contents.setup (owners contents.space) (kept_owners contents.space set) path) e))

-- ---- files in the folders of packages

module _ (contents : Contents) (proper : IsProper contents.space) (set : Path → Bool) (p : Package) (has : Has contents.space.packages p) (below : p.folder ≢ []) where
  its_owner : Has (owners contents.space) p
  its_owner = owner contents.setup contents.space proper p has below

  -- of a package that stays, where no task declares a file of that name
  pub own_stays : (name : List ℕ) → set p.folder ≡ true → IsNeverOutput name → IsPrunedPath contents set (p.folder ++ name ∷ [])
  own_stays name kept never =
      let path : Path = p.folder ++ name ∷ [] in
      let home : list_any (λ q. is_home (owners contents.space) q path) (kept_owners contents.space set) ≡ true =
      has_any (λ q. is_home (owners contents.space) q path) (kept_owners contents.space set) p (has_filter (λ (q : Package). set q.folder) (owners contents.space) p its_owner kept) (own_home contents.setup contents.space proper p has below name) in
      let free : is_declared contents.setup (owners contents.space) path ≡ false = never_declared contents.setup contents.space proper p has below name never in
      inr (inl (or_right (is_root_file path) _ (or_right (is_ignore_above (kept_owners contents.space set) path) _ (λ j. home j && not (free j)))))

  -- its manifest is its own file alone
  home_kept : list_any (λ q. is_home (owners contents.space) q (manifest_in p.folder)) (kept_owners contents.space set) ≡ true → set p.folder ≡ true
  home_kept some =
      let q = any_has (λ q. is_home (owners contents.space) q (manifest_in p.folder)) (kept_owners contents.space set) some in
      let is : q.0 ≡ p =
      one_home contents.setup contents.space proper p has below manifest_name q.0 (filter_has (λ (q : Package). set q.folder) (owners contents.space) q.0 q.1) q.2 in
      ap (λ (r : Package). set r.folder) (sym is) ∙ filter_test (λ (q : Package). set q.folder) (owners contents.space) q.0 q.1

  settled_kept : is_settled contents set (manifest_in p.folder) ≡ true → set p.folder ≡ true
  settled_kept e =
      elim (or_cases (is_root_file (manifest_in p.folder)) _ e) [
        | inl root ↦ absurd (false≢true (sym (no_root_file p.folder manifest_name below) ∙ root))
        | inr later ↦ elim (or_cases (is_ignore_above (kept_owners contents.space set) (manifest_in p.folder)) _ later) [
          | inl above ↦ absurd (false≢true (sym (ignore_last p.folder manifest_name) ∙ first_so (is_ignore_file (manifest_in p.folder)) _ above))
          | inr own ↦ home_kept (first_so (list_any (λ q. is_home (owners contents.space) q (manifest_in p.folder)) (kept_owners contents.space set)) _ own)
        ]
      ]

  manifest_is : is_manifest (owners contents.space) (manifest_in p.folder) ≡ true
  manifest_is =
      let inner : is_root_folder p.folder ≡ false = inner_folder p.folder below in
      let same : path_eq (manifest_in p.folder) (manifest_in p.folder) ≡ true = path_self (manifest_in p.folder) in
      has_any (λ (q : Package). not (is_root_folder q.folder) && path_eq (manifest_in p.folder) (manifest_in q.folder)) (owners contents.space) p its_owner (λ j. not (inner j) && same j)

  never_rooted : IsRooted contents.setup (owners contents.space) (kept_places contents set) (manifest_in p.folder) → ⊥
  never_rooted rooted =
      let counts : may_count contents.setup (owners contents.space) (manifest_in p.folder) ≡ true = first_so (may_count contents.setup (owners contents.space) (manifest_in p.folder)) _ rooted.far in
      let free : not (is_manifest (owners contents.space) (manifest_in p.folder)) ≡ true = second_so (not (is_declared contents.setup (owners contents.space) (manifest_in p.folder))) _ counts in
      false≢true (sym (ap not (manifest_is)) ∙ free)

  -- the manifest of a package stays only with the package
  pub manifest_kept : IsPrunedPath contents set (manifest_in p.folder) → set p.folder ≡ true
  manifest_kept (inl lock) = absurd (false≢true (sym (not_at_root p.folder manifest_name lock_name below) ∙ lock))
  manifest_kept (inr (inl settled)) = settled_kept settled
  manifest_kept (inr (inr rooted)) = absurd (never_rooted rooted)
