-- The packages of the files that stay are those whose folders stay.
use Rattle.std.proofs.Common.{◌≡◌, ◌≢◌, ℕ, Bool, true, List, [], filter, sym, ap, ◌∙◌, subst}
use Rattle.std.specs.Prelude.{None, Ok}
use Rattle.std.proofs.lemmas.List.Kept.{IsStrictlySortedBy-filter}
use Rattle.rel_path.specs.Paths.{Path, name_cmp, path_cmp, is_among}
use Rattle.rel_path.specs.Files.{FileMap, has}
use Rattle.rel_path.proofs.PathLaws.{path_cmp_total}
use Rattle.tree_walk.specs.Walked.{is_open}
use Rattle.workspaces.specs.declared.member.Package.{Package}
use Rattle.workspaces.specs.Lists.{ascending, Has}
use Rattle.workspaces.specs.Order.{package_cmp, package_total}
use Rattle.workspaces.specs.Entries.{globs_of}
use Rattle.workspaces.specs.Space.{Space, IsProper, manifest_in, manifest_name, folders_in, packages_at, inside_fault, twice_fault, or_then, checks_fault, space_of}
use Rattle.workspaces.specs.Steps.{AscendingNames}
use Rattle.workspaces.proofs.Apart.{AnyApart}
use Rattle.repository.specs.Reading.{Contents}
use Rattle.pruned_files.specs.Pruned.{Pruning, IsPruning, pruned_files, kept_packages}
use Rattle.pruned_reading.proofs.Lists.{all_from, filter_has, filter_test, has_filter}
use Rattle.pruned_reading.proofs.Ascending.{same_ascending, ascending_filter, sorted_keys}
use Rattle.pruned_reading.proofs.Read.{IsRead}
use Rattle.pruned_reading.proofs.Folders.{folders_ascend, folder_taken, folder_walked, walked_folder}
use Rattle.pruned_reading.proofs.Remaining.{IsSame, packages_stay, none_inside, none_twice}
use Rattle.pruned_reading.proofs.Found.{are_there, differ, distinct, proper, found_apart, found_member, below_root, folder_member, manifest_walked}
use Rattle.pruned_reading.proofs.Homes.{manifest_never}
use Rattle.pruned_reading.proofs.Staying.{own_stays, manifest_kept, not_at_root}
use Rattle.pruned_reading.proofs.Walking.{was_walked, was_pruned, is_kept, stays}

module _ {files : FileMap} {contents : Contents} {targets : List (List ℕ)} {p : Pruning} (read : IsRead files contents) (is : IsPruning contents targets p) where
  abbrev globs : List (List ℕ)
  globs = globs_of contents.space.root

  abbrev folders : List Path
  folders = folders_in globs contents.walk

  abbrev found : List Package
  found = read.space.found

  abbrev stays_here : Package → Bool
  stays_here m = p.set m.folder

  its_proper : IsProper contents.space
  its_proper = proper read.space read.walk

  its_member : (m : Package) → Has found m → Has contents.space.packages m
  its_member m has = found_member read.space read.walk m has

  below : (m : Package) → Has found m → m.folder ≢ []
  below m has = below_root read.space read.walk m has

  open_manifest : (m : Package) → Has found m → is_open (manifest_in m.folder) ≡ true
  open_manifest m has = read.few.kept (manifest_in m.folder) (manifest_walked read.space read.walk m has)

  -- ---- folders

  folder_kept : (folder : Path) → Has (folders_in globs p.paths) folder → Has (filter p.set folders) folder
  folder_kept folder has =
      let at = folder_walked globs p.paths folder has in
      let among : Has folders folder = walked_folder globs contents.walk folder (folder_taken globs p.paths folder has) (was_walked read is (manifest_in folder) at) in
      let m = folder_member read.space read.walk folder among in
      let kept = manifest_kept contents its_proper p.set m.0 (its_member m.0 m.1) (below m.0 m.1) (was_pruned read is (manifest_in m.0.folder) (subst (λ f. is_among p.paths (manifest_in f) ≡ true) (sym m.2) at)) in
      has_filter p.set folders folder among (ap p.set (sym m.2) ∙ kept)

  kept_folder : (folder : Path) → Has (filter p.set folders) folder → Has (folders_in globs p.paths) folder
  kept_folder folder has =
      let among = filter_has p.set folders folder has in
      let m = folder_member read.space read.walk folder among in
      let there = own_stays contents its_proper p.set m.0 (its_member m.0 m.1) (below m.0 m.1) manifest_name (ap p.set m.2 ∙ filter_test p.set folders folder has) manifest_never in
      let at : is_among p.paths (manifest_in m.0.folder) ≡ true = is_kept read is (manifest_in m.0.folder) (manifest_walked read.space read.walk m.0 m.1) there in
      walked_folder globs p.paths folder (folder_taken globs contents.walk folder among) (subst (λ f. is_among p.paths (manifest_in f) ≡ true) m.2 at)

  folders_stay : folders_in globs p.paths ≡ filter p.set folders
  folders_stay = same_ascending path_cmp path_cmp_total (folders_in globs p.paths) (filter p.set folders) (folders_ascend globs p.paths) (IsStrictlySortedBy-filter path_cmp p.set folders (folders_ascend globs contents.walk)) folder_kept kept_folder

  -- ---- packages

  same_manifest : (folder : Path) → Has folders folder → IsSame files (pruned_files p files) p.set folder
  same_manifest folder has kept =
      let m = folder_member read.space read.walk folder has in
      let there = own_stays contents its_proper p.set m.0 (its_member m.0 m.1) (below m.0 m.1) manifest_name (ap p.set m.2 ∙ kept) manifest_never in
      subst (λ f. pruned_files p files (manifest_in f) ≡ files (manifest_in f)) m.2
      (stays read is (manifest_in m.0.folder) there (open_manifest m.0 m.1) (not_at_root m.0.folder manifest_name _ (below m.0 m.1)))

  read_again : packages_at (pruned_files p files) (folders_in globs p.paths) ≡ Ok (filter stays_here found)
  read_again =
      ap (packages_at (pruned_files p files)) folders_stay
      ∙ packages_stay files (pruned_files p files) p.set folders found read.space.read (are_there read.space read.walk)
      (all_from (IsSame files (pruned_files p files) p.set) folders same_manifest)

  in_order : ascending package_cmp (filter stays_here found) ≡ filter stays_here (ascending package_cmp found)
  in_order = ascending_filter package_cmp package_total stays_here found (distinct read.space read.walk)

  fine : checks_fault (filter stays_here found) ≡ None
  fine =
      let apart : AnyApart (filter stays_here found) = λ x y a b. found_apart read.space read.walk x y (filter_has stays_here found x a) (filter_has stays_here found y b) in
      let inside : inside_fault (filter stays_here found) ≡ None =
      none_inside (filter stays_here found) (sorted_keys path_cmp (λ (m : Package). m.folder) stays_here found (differ read.space read.walk)) apart in
      let names : AscendingNames (filter stays_here contents.space.packages) = sorted_keys name_cmp (λ (m : Package). m.name) stays_here contents.space.packages its_proper.names in
      let twice : twice_fault (ascending package_cmp (filter stays_here found)) ≡ None =
      ap twice_fault (in_order ∙ ap (λ (s : Space). filter stays_here s.packages) (sym read.space.is)) ∙ none_twice (filter stays_here contents.space.packages) names in
      λ j. or_then (inside j) (twice j)

  abbrev space_after : Space
  space_after = record { root = contents.space.root; packages = kept_packages contents.space p.set }

  pub space_stays : space_of (pruned_files p files) p.paths contents.space.root ≡ Ok space_after
  unfolding space_of
  space_stays =
      let same : ascending package_cmp (filter stays_here found) ≡ kept_packages contents.space p.set = in_order ∙ ap (λ (s : Space). filter stays_here s.packages) (sym read.space.is) in
      rw (read.space.fine, read_again, fine) (λ j. Ok (record { root = contents.space.root; packages = same j }))
