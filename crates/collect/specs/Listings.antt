-- The listing of some tasks.
use Rattle.std.specs.Prelude.{◌≡◌, ℕ, Bool, false, List, [], ◌∷◌, Option, Some, None, filter, ⊤}
use Rattle.std.specs.List.{list_any, filter_map}
use Rattle.std.specs.Option.{option_map}
use Rattle.serde_json.specs.Data.{Data}
use Rattle.rel_path.specs.Paths.{Path}
use Rattle.rel_path.specs.Files.{FileMap}
use Rattle.workspaces.specs.declared.member.Package.{Package}
use Rattle.workspaces.specs.Space.{Space, owner_named}
use Rattle.turbo_config.specs.declared.entry.TaskDef.{TaskDef}
use Rattle.task_definitions.specs.Setup.{Setup, task_def}
use Rattle.listing.specs.declared.part.Listing.{Listing}
use Rattle.collect.specs.declared.wanted.Wanted.{Wanted}
use Rattle.collect.specs.Parts.{IsPart, takes_input}

-- one for one, in order
abbrev pub ArePaired : {X Y : Type 0} → (X → Y → Type 0) → List X → List Y → Type 0
ArePaired R [] [] = ⊤
ArePaired R [] (y ∷ ys) = ⊥
ArePaired R (x ∷ xs) [] = ⊥
ArePaired R (x ∷ xs) (y ∷ ys) = R x y × ArePaired R xs ys

-- ---- the files

abbrev pub takes_by : (Package → TaskDef → Path → Bool) → Path → Package → Option TaskDef → Bool
takes_by takes path p None = false
takes_by takes path p (Some def) = takes p def path

abbrev pub takes_in : (Package → TaskDef → Path → Bool) → Setup → Wanted → Path → Option Package → Bool
takes_in takes setup w path None = false
takes_in takes setup w path (Some p) = takes_by takes path p (task_def setup p.name w.id.task)

-- some wanted task takes the file
abbrev pub is_needed : Setup → Space → FileMap → List Path → List Wanted → Path → Bool
is_needed setup space files walk wanted path = list_any (λ w. takes_in (takes_input setup space files walk) setup w path (owner_named space w.id.«package»)) wanted

-- the walked files that some wanted task takes
unfoldable pub needed : Setup → Space → FileMap → List Path → List Wanted → List Path
needed setup space files walk wanted = filter (is_needed setup space files walk wanted) walk

-- with their bytes
abbrev pub with_bytes : FileMap → List Path → List (Path × List ℕ)
with_bytes files paths = filter_map (λ path. option_map (λ bytes. (path, bytes)) (files path)) paths

-- ---- the listing

-- a part for each wanted task, in order, and the files that some of them takes, each once
pub record IsListing (setup : Setup) (space : Space) (lock : Option Data) (files : FileMap) (walk : List Path) (env : List (List ℕ × List ℕ)) (wanted : List Wanted) (listing : Listing) : Type 0 where
  pub parts : ArePaired (IsPart setup space lock files walk env) wanted listing.parts
  pub files_are : listing.files ≡ with_bytes files (needed setup space files walk wanted)
