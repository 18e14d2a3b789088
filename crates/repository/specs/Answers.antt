-- What reading a repository, and each step of it, answers.
use Rattle.std.specs.Prelude.{◌≡◌, ℕ, List, [], ◌∷◌, Option, Some, None, Result, Ok, Err}
use Rattle.rel_path.specs.Paths.{Path}
use Rattle.rel_path.specs.Files.{FileMap}
use Rattle.manifest.specs.declared.error.ManifestErr.{ManifestErr}
use Rattle.manifest.specs.declared.error.ManifestErr.TheVariants as manifest
use Rattle.lock_entries.specs.declared.error.LockErr.{LockErr}
use Rattle.lock_entries.specs.declared.error.LockErr.TheVariants as lock
use Rattle.turbo_config.specs.declared.files.PackageConfig.{PackageConfig}
use Rattle.turbo_config.specs.declared.error.ConfigErr.{ConfigErr}
use Rattle.turbo_config.specs.declared.error.ConfigErr.TheVariants as config
use Rattle.tree_walk.specs.declared.error.WalkErr.{WalkErr}
use Rattle.tree_walk.specs.declared.error.WalkErr.TheVariants as walking
use Rattle.tree_walk.specs.Walked.{Walks}
use Rattle.workspaces.specs.declared.error.SpaceErr.{SpaceErr}
use Rattle.workspaces.specs.declared.error.SpaceErr.TheVariants as space
use Rattle.workspaces.specs.Space.{Space}
use Rattle.refusals.specs.declared.refusal.Refusal.{Refusal}
use Rattle.refusals.specs.declared.refusal.Refusal.TheVariants as refusal
use Rattle.refusals.specs.declared.stop.Stop.{Stop}
use Rattle.refusals.specs.declared.stop.Stop.TheVariants.{Refused, Failed, OutOfMemory}
use Rattle.repository.specs.declared.repository.Repository.{Repository}
use Rattle.repository.specs.Steps.{walk_refusal, space_refusal, config_refusal}
use Rattle.repository.specs.Reading.{Means, contents_of}

-- A repository is read as the files make it, and a refusal is the one that they give. The tree may fail, and memory may be wanting, at any time.
abbrev pub Reads : FileMap → Result Repository Stop → Type 0
Reads files (Ok repository) = Means files (Ok (contents_of repository))
Reads files (Err (Refused reason)) = Means files (Err reason)
Reads files (Err Failed) = Unit {0}
Reads files (Err OutOfMemory) = Unit {0}

-- ---- steps

-- a step ends in the refusal that is meant, or in a failure of the tree or for want of memory
abbrev pub Stops : {B : Type 0} → Result B Refusal → Stop → Type 0
Stops meant (Refused reason) = meant ≡ Err reason
Stops meant Failed = Unit {0}
Stops meant OutOfMemory = Unit {0}

-- a step answers what is meant, where the answer is seen as a value
abbrev pub AnswersAs : {A B : Type 0} → (A → B) → Result B Refusal → Result A Stop → Type 0
AnswersAs seen meant (Ok a) = meant ≡ Ok (seen a)
AnswersAs seen meant (Err e) = Stops meant e

abbrev pub Answers : {A : Type 0} → Result A Refusal → Result A Stop → Type 0
Answers meant result = AnswersAs (λ a. a) meant result

-- the walk, or the refusal that its fault is
abbrev pub AnswersWalk : FileMap → Result (List Path) Stop → Type 0
AnswersWalk files (Ok walk) = Walks (Unit {0}) files (Ok walk)
AnswersWalk files (Err (Refused reason)) = (fault : WalkErr) × Walks (Unit {0}) files (Err fault) × (walk_refusal fault ≡ Some reason)
AnswersWalk files (Err Failed) = Unit {0}
AnswersWalk files (Err OutOfMemory) = Unit {0}

-- the workspace, or the refusal that its fault is
abbrev pub AnswersSpace : Result Space SpaceErr → Result Space Stop → Type 0
AnswersSpace meant (Ok packages) = meant ≡ Ok packages
AnswersSpace meant (Err (Refused reason)) = (fault : SpaceErr) × (meant ≡ Err fault) × (space_refusal fault ≡ Some reason)
AnswersSpace meant (Err Failed) = Unit {0}
AnswersSpace meant (Err OutOfMemory) = Unit {0}

-- ---- the readers' errors; want of memory is no fault of a file

abbrev pub manifest_stop : Path → ManifestErr → Stop
manifest_stop path manifest.OutOfMemory = OutOfMemory
manifest_stop path fault = Refused (refusal.Manifest path fault)

abbrev pub lock_stop : LockErr → Stop
lock_stop lock.OutOfMemory = OutOfMemory
lock_stop fault = Refused (refusal.Lock fault)

abbrev pub config_stop : Path → ConfigErr → Stop
config_stop path config.OutOfMemory = OutOfMemory
config_stop path fault = Refused (config_refusal path fault)

abbrev pub stopped : Option Refusal → Stop
stopped (Some reason) = Refused reason
stopped None = OutOfMemory

abbrev pub walk_stop : WalkErr → Stop
walk_stop walking.Failed = Failed
walk_stop fault = stopped (walk_refusal fault)

abbrev pub space_stop : SpaceErr → Stop
space_stop space.Failed = Failed
space_stop fault = stopped (space_refusal fault)

-- ---- lists

-- the file with the package's name, if there is one
abbrev pub named : List ℕ → Option PackageConfig → List (List ℕ × PackageConfig)
named name None = []
named name (Some file) = (name, file) ∷ []
