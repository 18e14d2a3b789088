-- What holds of the packages of a repository that was read.
use Rattle.std.proofs.Common.{◌≡◌, ◌≢◌, ℕ, Bool, true, false, cond, ◌&&◌, List, [], ◌∷◌, length, nat_lt, map, refl, sym, ap, ◌∙◌, subst}
use Rattle.std.specs.Prelude.{Option, Some, None, is_some, Result, Ok, Err, bytes_eq}
use Rattle.std.specs.Cmp.{first_so}
use Rattle.std.specs.List.{AllByRecursion}
use Rattle.std.specs.List.Sorted.{IsStrictlySortedBy}
use Rattle.std.specs.Ordering.{ordering_then}
use Rattle.std.specs.Cmp.Lexicographic.{nat_list_cmp_total}
use Rattle.std.specs.declared.cmp.Ordering.{Ordering}
use Rattle.std.specs.declared.cmp.Ordering.TheVariants.{Less, Equal, Greater}
use Rattle.std.proofs.lemmas.Bool.{false≢true}
use Rattle.std.proofs.lemmas.Slice.Eq.{bytes_eq-Decides}
use Rattle.rel_path.specs.Paths.{Path, name_cmp, path_cmp, is_among}
use Rattle.rel_path.specs.Files.{FileMap, has}
use Rattle.rel_path.specs.Limits.{file_limit}
use Rattle.tree_dev.specs.declared.tree.Found.TheVariants.{TooLong, Here}
use Rattle.tree_dev.specs.Tree.{within}
use Rattle.manifest.specs.declared.manifest.Manifest.{Manifest}
use Rattle.manifest.specs.declared.error.ManifestErr.{ManifestErr}
use Rattle.manifest.specs.Manifest.{manifest_of}
use Rattle.tree_walk.specs.Walked.{is_open, is_walked, WalkedTo}
use Rattle.workspaces.specs.declared.member.Package.{Package}
use Rattle.workspaces.specs.declared.error.SpaceErr.{SpaceErr}
use Rattle.workspaces.specs.declared.error.SpaceErr.TheVariants.{NameTwice}
use Rattle.workspaces.specs.Lists.{ascending, Has}
use Rattle.workspaces.specs.Order.{package_cmp, package_total}
use Rattle.workspaces.specs.Entries.{globs_of, globs_fault}
use Rattle.workspaces.specs.Reading.{DifferByFolder}
use Rattle.workspaces.specs.Space.{Space, IsProper, manifest_in, folders_in, package_of, package_from, package_at, packages_at, and_more, inside_fault, twice_fault, or_then, checks_fault, unless, space_from, space_of}
use Rattle.workspaces.specs.Steps.{AscendingNames}
use Rattle.workspaces.proofs.Apart.{AnyApart, all_apart, members_apart}
use Rattle.pruned_reading.proofs.Lists.{all_from, map_has, has_map}
use Rattle.pruned_reading.proofs.Ascending.{path_tied, path_not_less, name_tied, below_all, ascending_up, ascending_has, has_ascending, one_by_key}
use Rattle.pruned_reading.proofs.Folders.{folders_ascend, folder_taken, folder_walked, taken_below}

-- ---- how they were found

-- the globs read, and so do the packages in the folders that they take; these pass the checks
pub record IsFound (files : FileMap) (walk : List Path) (root : Manifest) (space : Space) : Type 0 where
  pub fine : globs_fault root ≡ None
  pub found : List Package
  pub read : packages_at files (folders_in (globs_of root) walk) ≡ Ok found
  pub checked : checks_fault found ≡ None
  pub is : space ≡ record { root = root; packages = ascending package_cmp found }

module _ (files : FileMap) (walk : List Path) (root : Manifest) (space : Space) where
  abbrev end : List Package → Space
  end found = record { root = root; packages = ascending package_cmp found }

  pub found_in : space_of files walk root ≡ Ok space → IsFound files walk root space
  unfolding space_of
  found_in e = by (globs_fault root) refl (packages_at files (folders_in (globs_of root) walk)) refl e where
    checked : (found : List Package) → globs_fault root ≡ None → packages_at files (folders_in (globs_of root) walk) ≡ Ok found → (c : Option SpaceErr) → checks_fault found ≡ c → unless c (Ok (end found)) ≡ Ok space → IsFound files walk root space
    checked found f r None c h = record { fine = f; found = found; read = r; checked = c; is = let s : end found ≡ space = cc in sym s }
    checked found f r (Some fault) c h = absurd (cc)

    by : (g : Option SpaceErr) → globs_fault root ≡ g → (r : Result (List Package) SpaceErr) → packages_at files (folders_in (globs_of root) walk) ≡ r → unless g (space_from root r) ≡ Ok space → IsFound files walk root space
    by (Some fault) f r p h = absurd (cc)
    by None f (Err fault) p h = absurd (cc)
    by None f (Ok found) p h = checked found f p (checks_fault found) refl h

-- ---- packages, folder by folder

-- the package of the first folder, and those of the others
pub record IsOneMore (folder : Path) (one : Result (Option Package) SpaceErr) (more : Result (List Package) SpaceErr) (found : List Package) : Type 0 where
  pub first : Package
  pub rest : List Package
  pub one_is : one ≡ Ok (Some first)
  pub more_is : more ≡ Ok rest
  pub folder_is : first.folder ≡ folder
  pub is : found ≡ first ∷ rest

pub next_read : (folder : Path) (there : Option (List ℕ)) (more : Result (List Package) SpaceErr) (found : List Package) → and_more (package_at folder (within file_limit there)) more ≡ Ok found → is_some there ≡ true
    → IsOneMore folder (package_at folder (within file_limit there)) more found
next_read folder None more found e here = absurd (false≢true here)
next_read folder (Some bytes) more found e here = by (nat_lt file_limit (length bytes)) e where
  both : (manifest : Manifest) (m : Result (List Package) SpaceErr) → and_more (Ok (Some (package_of folder manifest))) m ≡ Ok found → IsOneMore folder (Ok (Some (package_of folder manifest))) m found
  both manifest (Ok rest) h = record { first = package_of folder manifest; rest = rest; one_is = refl; more_is = refl; folder_is = refl; is = let s : package_of folder manifest ∷ rest ≡ found = cc in sym s }
  both manifest (Err fault) h = absurd (cc)

  from : (r : Result Manifest ManifestErr) → and_more (package_from folder r) more ≡ Ok found → IsOneMore folder (package_from folder r) more found
  from (Ok manifest) h = both manifest more h
  from (Err fault) h = absurd (cc)

  by : (long : Bool) → and_more (package_at folder (cond long TooLong (Here bytes))) more ≡ Ok found → IsOneMore folder (package_at folder (cond long TooLong (Here bytes))) more found
  by true h = absurd (cc)
  by false h = from (manifest_of false bytes) h

abbrev pub AreThere : FileMap → List Path → Type 0
AreThere files folders = AllByRecursion (λ f. has files (manifest_in f) ≡ true) folders

read_folders : (files : FileMap) (folders : List Path) (found : List Package) → packages_at files folders ≡ Ok found → AreThere files folders → map (λ p. p.folder) found ≡ folders
unfolding packages_at
read_folders files [] found e all = let none : [] ≡ found = cc in ap (map (λ (p : Package). p.folder)) (sym none)
read_folders files (f ∷ fs) found e all =
    let n = next_read f (files (manifest_in f)) (packages_at files fs) found e all.0 in
    let later = read_folders files fs n.rest n.more_is all.1 in
    ap (map (λ (p : Package). p.folder)) n.is ∙ (λ j. n.folder_is j ∷ later j)

-- ---- names

lesser_name : (p q : Package) → package_cmp p q ≡ Less → bytes_eq p.name q.name ≡ false → name_cmp p.name q.name ≡ Less
lesser_name p q less apart = by (name_cmp p.name q.name) refl less where
  by : (o : Ordering) → name_cmp p.name q.name ≡ o → ordering_then o (path_cmp p.folder q.folder) ≡ Less → o ≡ Less
  by Less e first = refl
  by Equal e first = absurd (false≢true (sym apart ∙ (bytes_eq-Decides p.name q.name).1 (name_tied p.name q.name e)))
  by Greater e first = cc

-- packages in the order of their names of which no two neighbours have one name
names_ascend : (packages : List Package) → IsStrictlySortedBy package_cmp packages → twice_fault packages ≡ None → AscendingNames packages
unfolding twice_fault IsStrictlySortedBy
names_ascend [] up none = tt
names_ascend (p ∷ []) up none = (tt, tt)
names_ascend (p ∷ q ∷ packages) up none = by (bytes_eq p.name q.name) refl none (names_ascend (q ∷ packages) up.1) where
  by : (t : Bool) → bytes_eq p.name q.name ≡ t → cond t (Some (NameTwice p.name p.folder q.folder)) (twice_fault (q ∷ packages)) ≡ None → (twice_fault (q ∷ packages) ≡ None → AscendingNames (q ∷ packages)) → AscendingNames (p ∷ q ∷ packages)
  by true e later inner = cc
  by false e later inner =
      let first : name_cmp p.name q.name ≡ Less = lesser_name p q up.0.0 e in
      let rest = inner later in
      ((first, below_all name_cmp nat_list_cmp_total p.name q.name (map (λ (r : Package). r.name) packages) first rest.0), rest)

-- ---- all of them

no_fault : (first second : Option SpaceErr) → or_then first second ≡ None → (first ≡ None) × (second ≡ None)
no_fault None second e = (refl, e)
no_fault (Some fault) second e = absurd (cc)

tied_folders : (a b : Ordering) → ordering_then a b ≡ Equal → b ≡ Equal
tied_folders Less b e = cc
tied_folders Equal b e = e
tied_folders Greater b e = cc

module _ {files : FileMap} {walk : List Path} {root : Manifest} {space : Space} (f : IsFound files walk root space) (told : WalkedTo files None walk) where
  abbrev folders : List Path
  folders = folders_in (globs_of root) walk

  and_true : (b : Bool) → (b && true) ≡ b
  and_true true = refl
  and_true false = refl

  walked_there : (path : Path) → is_among walk path ≡ true → has files path ≡ true
  walked_there path e = first_so (has files path) (is_open path) (sym (and_true (is_walked files path)) ∙ (sym (told.exact path) ∙ e))

  pub are_there : AreThere files folders
  are_there = all_from (λ f. has files (manifest_in f) ≡ true) folders (λ folder has. walked_there (manifest_in folder) (folder_walked (globs_of root) walk folder has))

  pub their_folders : map (λ p. p.folder) f.found ≡ folders
  their_folders = read_folders files folders f.found f.read are_there

  pub differ : DifferByFolder f.found
  differ = subst (IsStrictlySortedBy path_cmp) (sym their_folders) (folders_ascend (globs_of root) walk)

  pub one_folder : (p q : Package) → Has f.found p → Has f.found q → p.folder ≡ q.folder → p ≡ q
  one_folder p q a b e = one_by_key path_cmp (λ (m : Package). m.folder) path_not_less f.found differ p q a b e

  pub distinct : (p q : Package) → Has f.found p → Has f.found q → package_cmp p q ≡ Equal → p ≡ q
  distinct p q a b e = one_folder p q a b (path_tied p.folder q.folder (tied_folders (name_cmp p.name q.name) (path_cmp p.folder q.folder) e))

  abbrev sorted : List Package
  sorted = ascending package_cmp f.found

  are_packages : space.packages ≡ sorted
  are_packages = ap (λ (s : Space). s.packages) f.is

  pub member_found : (p : Package) → Has space.packages p → Has f.found p
  member_found p has = ascending_has package_cmp package_total f.found p (subst (λ ps. Has ps p) are_packages has)

  pub found_member : (p : Package) → Has f.found p → Has space.packages p
  found_member p has = subst (λ ps. Has ps p) (sym are_packages) (has_ascending package_cmp package_total f.found distinct p has)

  -- ---- what they are not to one another

  faults : (inside_fault f.found ≡ None) × (twice_fault sorted ≡ None)
  faults = no_fault (inside_fault f.found) (twice_fault sorted) f.checked

  names : AscendingNames sorted
  names = names_ascend sorted (ascending_up package_cmp package_total f.found) faults.1

  in_folders : (p : Package) → Has f.found p → Has folders p.folder
  in_folders p has = subst (λ fs. Has fs p.folder) their_folders (map_has (λ (m : Package). m.folder) f.found p has)

  pub below_root : (p : Package) → Has f.found p → p.folder ≢ []
  below_root p has = taken_below (globs_of root) p.folder (folder_taken (globs_of root) walk p.folder (in_folders p has))

  pub proper : IsProper space
  proper = subst IsProper (sym f.is) (record {
    names = names;
    below_root = all_from (λ (p : Package). p.folder ≢ []) sorted (λ p has. below_root p (ascending_has package_cmp package_total f.found p has));
    apart = all_apart f.found differ faults.0 names;
  })

  pub found_apart : AnyApart f.found
  found_apart p q a b = members_apart space.packages proper.apart p q (found_member p a) (found_member q b)

  -- each folder is that of a package
  pub folder_member : (folder : Path) → Has folders folder → (p : Package) × (Has f.found p) × (p.folder ≡ folder)
  folder_member folder has = has_map (λ (p : Package). p.folder) f.found folder (subst (λ fs. Has fs folder) (sym their_folders) has)

  pub manifest_walked : (p : Package) → Has f.found p → is_among walk (manifest_in p.folder) ≡ true
  manifest_walked p has = folder_walked (globs_of root) walk p.folder (in_folders p has)
