-- Steps that end in a value or in a refusal.
use Rattle.std.specs.Prelude.{◌≡◌, ℕ, List, [], ◌∷◌, Option, Some, None, Result, Ok, Err}
use Rattle.rel_path.specs.Paths.{Path}
use Rattle.refusals.specs.declared.refusal.Refusal.{Refusal}
use Rattle.refusals.specs.declared.refusal.Refusal.TheVariants as refusal
use Rattle.turbo_config.specs.declared.error.ConfigErr.{ConfigErr}
use Rattle.turbo_config.specs.declared.error.ConfigErr.TheVariants as config
use Rattle.tree_walk.specs.declared.error.WalkErr.{WalkErr}
use Rattle.tree_walk.specs.declared.error.WalkErr.TheVariants as walking
use Rattle.workspaces.specs.declared.error.SpaceErr.{SpaceErr}
use Rattle.workspaces.specs.declared.error.SpaceErr.TheVariants as space
use Rattle.workspaces.specs.Space.{manifest_name}

-- a value goes on to the next step, and a refusal ends the reading
abbrev pub After : {A B : Type 0} → Result A Refusal → (A → Result B Refusal → Type 0) → Result B Refusal → Type 0
After (Ok a) next answer = next a answer
After (Err reason) next answer = answer ≡ Err reason

-- the answer is this refusal, if there is one
abbrev pub IsRefusal : {B : Type 0} → Option Refusal → Result B Refusal → Type 0
IsRefusal None answer = ⊥
IsRefusal (Some reason) answer = answer ≡ Err reason

-- ---- the readers' faults as refusals

-- the path of a file in the root folder
abbrev pub at_root : List ℕ → Path
at_root name = name ∷ []

-- why there is no walk; that the tree failed or memory was wanting is no matter of the files
abbrev pub walk_refusal : WalkErr → Option Refusal
walk_refusal (walking.TooDeep path) = Some (refusal.TooDeep path)
walk_refusal walking.TooMany = Some refusal.TooMany
walk_refusal walking.Failed = None
walk_refusal walking.OutOfMemory = None

abbrev pub space_refusal : SpaceErr → Option Refusal
space_refusal (space.Glob pointer fault) = Some (refusal.Glob (at_root manifest_name) pointer fault)
space_refusal (space.TooLarge path) = Some (refusal.TooLarge path)
space_refusal (space.Manifest path fault) = Some (refusal.Manifest path fault)
space_refusal (space.Inside outer inner) = Some (refusal.Inside outer inner)
space_refusal (space.NameTwice name first second) = Some (refusal.NameTwice name first second)
space_refusal space.Failed = None
space_refusal space.OutOfMemory = None

-- a glob that does not read is named with its place in the file
abbrev pub config_refusal : Path → ConfigErr → Refusal
config_refusal path (config.Glob pointer fault) = refusal.Glob path pointer fault
config_refusal path fault = refusal.Config path fault
