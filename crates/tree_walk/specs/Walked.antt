-- The walked files.
use Rattle.std.specs.Prelude.{◌≡◌, ℕ, ◌+◌, ◌≤◌, Bool, true, not, ◌&&◌, ◌||◌, bytes_eq, codes, List, [], length, Option, Some, None, Result, Ok, Err}
use Rattle.std.specs.List.Sorted.{IsStrictlySortedBy}
use Rattle.rel_path.specs.Paths.{Path, path_cmp, is_among}
use Rattle.rel_path.specs.Files.{FileMap, has}
use Rattle.rel_path.specs.Limits.{component_limit, count_limit}
use Rattle.tree_walk.specs.declared.error.WalkErr.{WalkErr}
use Rattle.tree_walk.specs.declared.error.WalkErr.TheVariants.{TooDeep, TooMany, Failed, OutOfMemory}
use Rattle.tree_walk.specs.Traversal.{Choice, reached, IsOnTheWay, is_before}

-- the folders that are never entered
abbrev pub is_skipped : List ℕ → Bool
is_skipped name = bytes_eq name (codes "node_modules") || bytes_eq name (codes ".git") || bytes_eq name (codes ".turbo")

-- every file is wanted
abbrev pub walk_choice : Choice
walk_choice = record { enters = λ folder name. not (is_skipped name); wants = λ path. true }

-- no folder on the way to the path is one that no walk enters
abbrev pub is_open : Path → Bool
is_open path = reached walk_choice.enters [] path

abbrev pub is_walked : FileMap → Path → Bool
is_walked files path = has files path && is_open path

-- a walked file, or a folder that the walk comes upon
abbrev pub IsEntry : FileMap → Path → Type 0
IsEntry files path = IsOnTheWay (has files) walk_choice.enters [] path

-- exactly the walked files before a stop, in order; nothing before it is too deep
pub record WalkedTo (files : FileMap) (stop : Option Path) (paths : List Path) : Type 0 where
  pub ascend : IsStrictlySortedBy path_cmp paths
  pub exact : (path : Path) → is_among paths path ≡ (is_walked files path && is_before stop path)
  pub shallow : (path : Path) → IsEntry files path → is_before stop path ≡ true → length path ≤ component_limit

-- told or not: in order, and none below a folder that no walk enters
pub record IsWalk (paths : List Path) : Type 0 where
  pub ascend : IsStrictlySortedBy path_cmp paths
  pub kept : (path : Path) → is_among paths path ≡ true → is_open path ≡ true
  pub few : length paths ≤ count_limit

pub record IsTooDeep (files : FileMap) (stop : Path) (before : List Path) : Type 0 where
  pub walked : WalkedTo files (Some stop) before
  pub few : length before ≤ count_limit
  pub entry : IsEntry files stop
  pub deep : length stop ≡ component_limit + 1

pub record IsTooMany (files : FileMap) (stop : Path) (before : List Path) : Type 0 where
  pub walked : WalkedTo files (Some stop) before
  pub full : length before ≡ count_limit
  pub file : is_walked files stop ≡ true
  pub fine : length stop ≤ component_limit

abbrev pub Walks : Type 0 → FileMap → Result (List Path) WalkErr → Type 0
Walks Tells files (Ok paths) = IsWalk paths × (Tells → WalkedTo files None paths)
Walks Tells files (Err (TooDeep stop)) = Tells → (before : List Path) × IsTooDeep files stop before
Walks Tells files (Err TooMany) = Tells → (stop : Path) × (before : List Path) × IsTooMany files stop before
Walks Tells files (Err Failed) = Unit {0}
Walks Tells files (Err OutOfMemory) = Unit {0}
