-- Sets of folders, found by their names, and files that are told by them.
use Rattle.std.specs.Prelude.{◌≡◌, ◌<◌, ◌&&◌, ℕ, Bool, true, false, List, [], ◌∷◌, length, take, is_some, Vec}
use Rattle.std.specs.List.{list_any}
use Rattle.std.specs.Ordering.{is_eq}
use Rattle.std.specs.declared.alloc.Global.{Global}
use Rattle.std.specs.BTreeSet.{BTreeSet}
use Rattle.rel_path.specs.Paths.{Path, path_cmp, path_eq, strip}
use Rattle.workspaces.specs.declared.member.Package.{Package}
use Rattle.workspaces.specs.Space.{manifest_name}
use Rattle.task_inputs.specs.Ignores.{is_ignore_file}
use Rattle.collect.specs.Steps.{folder_of}
use Rattle.repository.specs.Steps.{at_root}
use Rattle.repository.specs.Reading.{lock_name}
use Rattle.pruned_files.specs.Pruned.{npmrc_name}

abbrev pub Folders : Type 0
Folders = BTreeSet (Vec (List ℕ) Global)

-- the folder is one of the set
abbrev pub is_folder : Folders → Path → Bool
is_folder folders folder = list_any (λ key. is_eq (path_cmp folder key.items)) folders.keys

-- exactly the folders of these owners
abbrev pub AreFoldersOf : List Package → Folders → Type 0
AreFoldersOf members folders = (folder : Path) → is_folder folders folder ≡ list_any (λ p. path_eq folder p.folder) members

-- exactly the folders of these owners, and those in which one of them lies
abbrev pub AreAbove : List Package → Folders → Type 0
AreAbove members folders = (folder : Path) → is_folder folders folder ≡ list_any (λ p. is_some (strip folder p.folder)) members

-- the path lies below a folder of the set that is not the root's, or below none
abbrev pub IsBelowSome : Folders → Path → Bool → Type 0
IsBelowSome folders path true = (depth : ℕ) × (0 < depth) × (depth < length path) × (is_folder folders (take depth path) ≡ true)
IsBelowSome folders path false = (depth : ℕ) → 0 < depth → depth < length path → is_folder folders (take depth path) ≡ false

-- the ignore file of one of the folders
abbrev pub is_ignore_in : Folders → Path → Bool
is_ignore_in folders path = is_ignore_file path && is_folder folders (folder_of path)

-- the root's `package.json`, `package-lock.json` and `.npmrc`
abbrev pub is_layer_root : Path → Bool
is_layer_root path = list_any (λ name. path_eq path (at_root name)) (manifest_name ∷ lock_name ∷ npmrc_name ∷ [])
