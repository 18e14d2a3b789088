-- Words that the calls behind the public ones share.
use Rattle.std.specs.Prelude.{◌≡◌, ◌≢◌, ◌<◌, ◌⊎◌, Bool, true, false, ℕ, zero, suc, List, [], ◌∷◌, length, map, Option, Some, Result, IfErr}
use Rattle.std.specs.List.{All, HoldsAt}
use Rattle.std.specs.List.Sorted.{IsStrictlySortedBy}
use Rattle.rel_path.specs.Causes.{Counts}
use Rattle.rel_path.specs.Paths.{name_cmp}
use Rattle.manifest.specs.declared.manifest.Manifest.{Manifest}
use Rattle.workspaces.specs.declared.member.Package.{Package}
use Rattle.workspaces.specs.Lists.{Has, passes_at}
use Rattle.workspaces.specs.Edges.{edge_from, has_name}
use Rattle.workspaces.specs.declared.error.SpaceErr.{SpaceErr}
use Rattle.workspaces.specs.declared.error.SpaceErr.TheVariants.{Glob, TooLarge, Manifest as BadManifest, Inside, NameTwice, Failed, OutOfMemory}

-- no error but want of memory, which may come at any time
abbrev pub OnlyMemory : {T : Type 0} → Result T SpaceErr → Type 0
OnlyMemory result = IfErr result (λ e. e ≡ OutOfMemory)

-- an error is the fault, or want of memory, which may come at any time
abbrev pub MayRefuse : Option SpaceErr → SpaceErr → Type 0
MayRefuse fault e = (e ≡ OutOfMemory) ⊎ (fault ≡ Some e)

abbrev pub is_failed : SpaceErr → Bool
is_failed (Glob pointer fault) = false
is_failed (TooLarge path) = false
is_failed (BadManifest path fault) = false
is_failed (Inside outer inner) = false
is_failed (NameTwice name first second) = false
is_failed Failed = true
is_failed OutOfMemory = false

-- `Failed` comes only where the count of faults rose, and every other answer leaves it as it is
abbrev pub HasCause : {T : Type 0} → ℕ → ℕ → Result T SpaceErr → Type 0
HasCause before now result = Counts is_failed before now result

-- ---- packages by name

abbrev pub AscendingNames : List Package → Type 0
AscendingNames packages = IsStrictlySortedBy name_cmp (map (λ member. member.name) packages)

-- no package has the name
abbrev pub IsNoName : List Package → List ℕ → Type 0
IsNoName packages name = All (λ member. member.name ≢ name) packages

-- the package at the place has the name
abbrev pub IsNamedAt : List Package → List ℕ → ℕ → Type 0
IsNamedAt packages name place = (place < length packages) × HoldsAt (λ member. member.name ≡ name) packages place

-- the name of the package at a place
abbrev pub name_at : List Package → ℕ → List ℕ
name_at [] place = []
name_at (member ∷ packages) zero = member.name
name_at (member ∷ packages) (suc place) = name_at packages place

-- places of packages with an edge were added: of each whose name is among the pairs' names, and of no other
pub record AddsEdges (packages : List Package) (own : List ℕ) (m : Manifest) (pairs : List (List ℕ × List ℕ)) (old new : List ℕ) : Type 0 where
  pub kept : (place : ℕ) → Has old place → Has new place
  pub added : (place : ℕ) → passes_at (edge_from own m) packages place ≡ true → has_name (name_at packages place) pairs ≡ true → Has new place
  pub exact : (place : ℕ) → Has new place → Has old place ⊎ (passes_at (edge_from own m) packages place ≡ true)
