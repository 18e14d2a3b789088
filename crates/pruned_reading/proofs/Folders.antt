-- Folders that hold a walked manifest.
use Rattle.std.proofs.Common.{◌≡◌, ◌≢◌, ℕ, Bool, true, false, cond, List, [], ◌∷◌, filter, refl, ap, ◌∙◌, subst}
use Rattle.std.specs.Prelude.{Option, Some, None, bytes_eq}
use Rattle.std.specs.Option.{option_map}
use Rattle.std.specs.List.{filter_map}
use Rattle.std.specs.List.Sorted.{IsStrictlySortedBy}
use Rattle.std.proofs.lemmas.Bool.{false≢true}
use Rattle.std.proofs.lemmas.Slice.Eq.{bytes_eq-Decides}
use Rattle.rel_path.specs.Paths.{Path, path_cmp, is_among}
use Rattle.rel_path.proofs.PathLaws.{path_cmp_total}
use Rattle.workspaces.specs.Lists.{Has}
use Rattle.workspaces.specs.Space.{manifest_name, manifest_in, folder_of, is_taken, folders_in}
use Rattle.pruned_reading.proofs.Lists.{filter_map_has, has_filter_map, filter_has, filter_test, has_filter, among_has, has_among}
use Rattle.pruned_reading.proofs.Ascending.{path_tied, ascending_up, ascending_has, has_ascending}

-- ---- the folder of a manifest

manifest_last : (folder : Path) → folder_of (manifest_in folder) ≡ Some folder
manifest_last [] = refl
manifest_last (name ∷ []) = refl
manifest_last (name ∷ next ∷ rest) = ap (option_map (λ folder. name ∷ folder)) (manifest_last (next ∷ rest))

some_path : (a b : Path) → Some a ≡ Some b → a ≡ b
some_path a b e = cc

folder_back : (path folder : Path) → folder_of path ≡ Some folder → path ≡ manifest_in folder
folder_back [] folder e = cc
folder_back (name ∷ []) folder e = by (bytes_eq name manifest_name) refl e where
  by : (t : Bool) → bytes_eq name manifest_name ≡ t → cond t (Some []) None ≡ Some folder → name ∷ [] ≡ manifest_in folder
  by true t f = ap (λ n. n ∷ []) ((bytes_eq-Decides name manifest_name).0 t) ∙ ap manifest_in (some_path [] folder f)
  by false t f = cc
folder_back (name ∷ next ∷ rest) folder e = by (folder_of (next ∷ rest)) refl e (folder_back (next ∷ rest)) where
  by : (inner : Option Path) → folder_of (next ∷ rest) ≡ inner → option_map (λ f. name ∷ f) inner ≡ Some folder → ((f : Path) → folder_of (next ∷ rest) ≡ Some f → next ∷ rest ≡ manifest_in f) → name ∷ next ∷ rest ≡ manifest_in folder
  by None t f more = cc
  by (Some inner) t f more = ap (λ p. name ∷ p) (more inner t) ∙ ap manifest_in (some_path (name ∷ inner) folder f)

-- ---- the folders that globs take

module _ (globs : List (List ℕ)) (walk : List Path) where
  abbrev taken : List Path
  taken = filter (is_taken globs) (filter_map folder_of walk)

  pub folders_ascend : IsStrictlySortedBy path_cmp (folders_in globs walk)
  unfolding folders_in
  folders_ascend = ascending_up path_cmp path_cmp_total taken

  pub folder_taken : (folder : Path) → Has (folders_in globs walk) folder → is_taken globs folder ≡ true
  unfolding folders_in
  folder_taken folder has = filter_test (is_taken globs) (filter_map folder_of walk) folder (ascending_has path_cmp path_cmp_total taken folder has)

  pub folder_walked : (folder : Path) → Has (folders_in globs walk) folder → is_among walk (manifest_in folder) ≡ true
  unfolding folders_in
  folder_walked folder has =
      let r = filter_map_has folder_of walk folder (filter_has (is_taken globs) (filter_map folder_of walk) folder (ascending_has path_cmp path_cmp_total taken folder has)) in
      has_among walk (manifest_in folder) (subst (Has walk) (folder_back r.0 folder r.2) r.1)

  pub walked_folder : (folder : Path) → is_taken globs folder ≡ true → is_among walk (manifest_in folder) ≡ true → Has (folders_in globs walk) folder
  unfolding folders_in
  walked_folder folder take at =
      has_ascending path_cmp path_cmp_total taken (λ x y p q e. path_tied x y e) folder
      (has_filter (is_taken globs) (filter_map folder_of walk) folder (has_filter_map folder_of walk (manifest_in folder) folder (among_has walk (manifest_in folder) at) (manifest_last folder)) take)

pub taken_below : (globs : List (List ℕ)) (folder : Path) → is_taken globs folder ≡ true → folder ≢ []
taken_below globs [] take root = false≢true take
taken_below globs (name ∷ names) take root = cc
