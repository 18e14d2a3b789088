-- What one owner needs of another, and the owners that are reached so.
use Rattle.std.specs.Prelude.{◌≡◌, ◌⊎◌, ℕ, Bool, true, List, [], length, Some}
use Rattle.std.specs.List.{slice_get}
use Rattle.rel_path.specs.Paths.{Path}
use Rattle.workspaces.specs.declared.member.Package.{Package}
use Rattle.workspaces.specs.Edges.{has_edge}
use Rattle.workspaces.specs.Lists.{Has}
use Rattle.workspaces.specs.Marks.{is_marked}
use Rattle.workspaces.specs.Space.{Space, owners, root_package}
use Rattle.repository.specs.Reading.{Contents}
use Rattle.kept_packages.specs.Kept.{NamesTaskOf, LinksTo, TakesFrom, Stays, has_root_task, is_target}

-- ---- owners by their numbers

-- the owner has one of these numbers
pub record IsAmong (space : Space) (numbers : List ℕ) (q : Package) : Type 0 where
  pub number : ℕ
  pub among : Has numbers number
  pub stands : slice_get (owners space) number ≡ Some q

-- the number is that of an owner that is so
pub record IsOf (space : Space) (P : Package → Type 0) (number : ℕ) : Type 0 where
  pub member : Package
  pub stands : slice_get (owners space) number ≡ Some member
  pub is : P member

-- numbers were added: those of each owner that is so, and no other
pub record Gains (space : Space) (P : Package → Type 0) (old new : List ℕ) : Type 0 where
  pub kept : (n : ℕ) → Has old n → Has new n
  pub added : (q : Package) → P q → IsAmong space new q
  pub only : (n : ℕ) → Has new n → Has old n ⊎ IsOf space P n

-- ---- what one owner needs

abbrev pub IsEdge : Space → Package → Package → Type 0
IsEdge space p q = Has space.packages q × (has_edge p q ≡ true)

abbrev pub HasLink : Contents → Package → Package → Type 0
HasLink contents p q = Has contents.space.packages q × LinksTo contents contents.lock p q

-- the root needs all packages
abbrev pub IsOfRoot : Space → Package → Package → Type 0
IsOfRoot space p q = (p.folder ≡ []) × Has space.packages q

abbrev pub GivesFile : Contents → Package → Package → Type 0
GivesFile contents p q = Has contents.space.packages q × TakesFrom contents p q

-- without looking at files
abbrev pub NeedsOne : Contents → Package → Package → Type 0
NeedsOne contents p q = IsEdge contents.space p q ⊎ (NamesTaskOf contents p q ⊎ (HasLink contents p q ⊎ IsOfRoot contents.space p q))

-- files are looked at where the root has a configured task
abbrev pub NeedsFile : Contents → Package → Package → Type 0
NeedsFile contents p q = (has_root_task contents ≡ true) × GivesFile contents p q

abbrev pub Needs : Contents → Package → Package → Type 0
Needs contents p q = NeedsOne contents p q ⊎ NeedsFile contents p q

-- an owner of one of these numbers needs it so
pub record Leads (space : Space) (R : Package → Package → Type 0) (from : List ℕ) (q : Package) : Type 0 where
  pub user : Package
  pub among : IsAmong space from user
  pub needs : R user q

-- ---- what is reached

-- a package with one of the names
abbrev pub IsTarget : Space → List (List ℕ) → Package → Type 0
IsTarget space targets q = Has space.packages q × (is_target targets q ≡ true)

-- it is a target, or the root depends on it
abbrev pub IsFirst : Space → List (List ℕ) → Package → Type 0
IsFirst space targets q = IsTarget space targets q ⊎ IsEdge space (root_package space.root) q

-- the owner is marked
pub record IsMarked (space : Space) (marks : List Bool) (q : Package) : Type 0 where
  pub number : ℕ
  pub marked : is_marked marks number ≡ true
  pub stands : slice_get (owners space) number ≡ Some q

-- the folders have the first owners, and with each owner what it needs
pub record Holds (contents : Contents) (first : List ℕ) (set : Path → Bool) : Type 0 where
  pub begun : (q : Package) → IsAmong contents.space first q → set q.folder ≡ true
  pub needs : (p q : Package) → Stays contents set p → Needs contents p q → set q.folder ≡ true

-- a mark stands for each owner; the first owners are marked, and with each owner what it needs, and no more than has to be
pub record Reaches (contents : Contents) (first : List ℕ) (marks : List Bool) : Type 0 where
  pub size : length marks ≡ length (owners contents.space)
  pub begun : (q : Package) → IsAmong contents.space first q → IsMarked contents.space marks q
  pub closed : (p q : Package) → IsMarked contents.space marks p → Needs contents p q → IsMarked contents.space marks q
  pub least : (set : Path → Bool) → Holds contents first set → (q : Package) → IsMarked contents.space marks q → set q.folder ≡ true
