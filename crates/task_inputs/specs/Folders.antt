-- Homes, found by the names of their folders.
use Rattle.std.specs.Prelude.{◌≡◌, ◌<◌, ◌+◌, ℕ, true, false, List, length, take, Option, Some, None, IsSome, Vec}
use Rattle.std.specs.List.{slice_get, AllByRecursion}
use Rattle.std.specs.Map.{lookup}
use Rattle.std.specs.Ordering.{is_eq}
use Rattle.std.specs.declared.alloc.Global.{Global}
use Rattle.std.specs.BTreeMap.{BTreeMap}
use Rattle.rel_path.specs.Paths.{Path, path_cmp, strip}
use Rattle.workspaces.specs.declared.member.Package.{Package}
use Rattle.workspaces.specs.Space.{is_home_of, is_root_folder}
use Rattle.task_inputs.specs.Homes.{Home, folders_of}

abbrev pub Folders : Type 0
Folders = BTreeMap (Vec (List ℕ) Global) ℕ

-- the number that stands by a folder
abbrev pub number_at : Folders → Path → Option ℕ
number_at folders folder = lookup (λ key. is_eq (path_cmp folder key.items)) folders.entries

-- the last home is the root's, and it is the only one; the others lie apart
pub record AreHomes (homes : List Home) : Type 0 where
  pub last : ℕ
  pub count : length homes ≡ last + 1
  pub root : Home
  pub stands : slice_get homes last ≡ Some root
  pub at_root : is_root_folder root.folder ≡ true
  pub alone : (i : ℕ) (a : Home) → slice_get homes i ≡ Some a → is_root_folder a.folder ≡ true → i ≡ last
  pub apart : (i j : ℕ) (a b : Home) → i < j → j < last → slice_get homes i ≡ Some a → slice_get homes j ≡ Some b → (strip a.folder b.folder ≡ None) × (strip b.folder a.folder ≡ None)

-- the home of this number has this folder, which is not the root's
pub record IsAt (homes : List Home) (place : ℕ) (folder : Path) : Type 0 where
  pub home : Home
  pub stands : slice_get homes place ≡ Some home
  pub here : home.folder ≡ folder
  pub inner : is_root_folder folder ≡ false

-- each folder of a home but the root's has a number, which is that of such a home with this folder
pub record AreIndexed (homes : List Home) (folders : Folders) : Type 0 where
  pub sound : (folder : Path) (place : ℕ) → number_at folders folder ≡ Some place → IsAt homes place folder
  pub whole : (place : ℕ) (home : Home) → slice_get homes place ≡ Some home → is_root_folder home.folder ≡ false → IsSome (number_at folders home.folder)
  pub are : AreHomes homes

-- each folder of the first so many owners has a number, which is that of one of these with this folder
pub record Numbers (owners : List Package) (count : ℕ) (folders : Folders) : Type 0 where
  pub sound : (folder : Path) (place : ℕ) → number_at folders folder ≡ Some place → (place < count) × (p : Package) × (slice_get owners place ≡ Some p) × (p.folder ≡ folder)
  pub whole : (place : ℕ) (p : Package) → place < count → slice_get owners place ≡ Some p → IsSome (number_at folders p.folder)

-- the number of a folder above the path, if there is one
abbrev pub IsFound : Folders → Path → Option ℕ → Type 0
IsFound folders path None = (depth : ℕ) → depth < length path → number_at folders (take depth path) ≡ None
IsFound folders path (Some place) = (depth : ℕ) × (depth < length path) × (number_at folders (take depth path) ≡ Some place)

-- the number of the path's home, if it has one
abbrev pub IsHomeOf : List Home → Path → Option ℕ → Type 0
IsHomeOf homes path None = AllByRecursion (λ home. is_home_of (folders_of homes) home.folder path ≡ false) homes
IsHomeOf homes path (Some place) = (home : Home) × (slice_get homes place ≡ Some home) × (is_home_of (folders_of homes) home.folder path ≡ true)
