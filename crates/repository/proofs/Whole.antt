-- The steps of a reading put together.
use Rattle.std.proofs.Common.{◌≡◌, List, refl, sym, subst}
use Rattle.std.specs.Prelude.{Option, Some, Result, Ok, Err}
use Rattle.serde_json.specs.Data.{Data}
use Rattle.rel_path.specs.Paths.{Path}
use Rattle.rel_path.specs.Files.{FileMap}
use Rattle.manifest.specs.declared.manifest.Manifest.{Manifest}
use Rattle.workspaces.specs.declared.error.SpaceErr.{SpaceErr}
use Rattle.workspaces.specs.Space.{Space, space_of}
use Rattle.task_definitions.specs.Setup.{Setup}
use Rattle.refusals.specs.declared.refusal.Refusal.{Refusal}
use Rattle.refusals.specs.declared.stop.Stop.{Stop}
use Rattle.refusals.specs.declared.stop.Stop.TheVariants.{Refused, Failed, OutOfMemory}
use Rattle.repository.specs.Steps.{After, IsRefusal, space_refusal}
use Rattle.repository.specs.Reading.{Contents, root_manifest, lockfile, setup_in, AfterWalk, AfterSpace, Means}
use Rattle.repository.specs.Answers.{Reads, Stops, AnswersWalk, AnswersSpace}

module _ {A B : Type 0} (next : A → Result B Refusal → Type 0) where
  on : (meant : Result A Refusal) (a : A) (answer : Result B Refusal) → meant ≡ Ok a → next a answer → After meant next answer
  on meant a answer e rest = subst (λ m. After m next answer) (sym e) rest

  stop : (meant : Result A Refusal) (reason : Refusal) → meant ≡ Err reason → After meant next (Err reason)
  stop meant reason e = subst (λ m. After m next (Err reason)) (sym e) refl

module _ {B : Type 0} (next : Space → Result B Refusal → Type 0) where
  on_space : (meant : Result Space SpaceErr) (space : Space) (answer : Result B Refusal) → meant ≡ Ok space → next space answer → AfterSpace meant next answer
  on_space meant space answer e rest = subst (λ m. AfterSpace m next answer) (sym e) rest

  stop_space : (meant : Result Space SpaceErr) (fault : SpaceErr) (reason : Refusal) → meant ≡ Err fault → space_refusal fault ≡ Some reason → AfterSpace meant next (Err reason)
  stop_space meant fault reason e is = subst (λ m. AfterSpace m next (Err reason)) (sym e) (subst (λ r. IsRefusal {B = B} r (Err reason)) (sym is) refl)

module _ (files : FileMap) where
  abbrev FromSetup : List Path → Option Data → Space → Setup → Result Contents Refusal → Type 0
  FromSetup walk lock space setup end = end ≡ Ok (record { walk = walk; space = space; setup = setup; lock = lock })

  abbrev FromSpace : List Path → Option Data → Space → Result Contents Refusal → Type 0
  FromSpace walk lock space = After (setup_in files space.packages) (FromSetup walk lock space)

  abbrev FromWalk : Manifest → Option Data → List Path → Result Contents Refusal → Type 0
  FromWalk root lock walk = AfterSpace (space_of files walk root) (FromSpace walk lock)

  abbrev FromLock : Manifest → Option Data → Result Contents Refusal → Type 0
  FromLock root lock = AfterWalk files (FromWalk root lock)

  abbrev FromRoot : Manifest → Result Contents Refusal → Type 0
  FromRoot root = After (lockfile files) (FromLock root)

  module _ (root : Manifest) (is_root : root_manifest files ≡ Ok root) where
    after_root : (answer : Result Contents Refusal) → FromRoot root answer → Means files answer
    after_root answer rest = on FromRoot (root_manifest files) root answer is_root rest

    module _ (lock : Option Data) (is_lock : lockfile files ≡ Ok lock) where
      after_lock : (answer : Result Contents Refusal) → FromLock root lock answer → Means files answer
      after_lock answer rest = after_root answer (on (FromLock root) (lockfile files) lock answer is_lock rest)

      pub stop_walk : (e : Stop) → AnswersWalk files (Err e) → Reads files (Err e)
      stop_walk (Refused reason) (fault, walks, is) = after_lock (Err reason) (Err fault, walks, subst (λ r. IsRefusal {B = Contents} r (Err reason)) (sym is) refl)
      stop_walk Failed here = tt
      stop_walk OutOfMemory here = tt

      module _ (walk : List Path) (is_walk : AnswersWalk files (Ok walk)) where
        after_walk : (answer : Result Contents Refusal) → FromWalk root lock walk answer → Means files answer
        after_walk answer rest = after_lock answer (Ok walk, is_walk, rest)

        pub stop_packages : (e : Stop) → AnswersSpace (space_of files walk root) (Err e) → Reads files (Err e)
        stop_packages (Refused reason) (fault, meant, is) = after_walk (Err reason) (stop_space (FromSpace walk lock) (space_of files walk root) fault reason meant is)
        stop_packages Failed here = tt
        stop_packages OutOfMemory here = tt

        module _ (space : Space) (is_space : space_of files walk root ≡ Ok space) where
          after_space : (answer : Result Contents Refusal) → FromSpace walk lock space answer → Means files answer
          after_space answer rest = after_walk answer (on_space (FromSpace walk lock) (space_of files walk root) space answer is_space rest)

          pub stop_setup : (e : Stop) → Stops (setup_in files space.packages) e → Reads files (Err e)
          stop_setup (Refused reason) here = after_space (Err reason) (stop (FromSetup walk lock space) (setup_in files space.packages) reason here)
          stop_setup Failed here = tt
          stop_setup OutOfMemory here = tt

          pub whole : (setup : Setup) → setup_in files space.packages ≡ Ok setup → Means files (Ok (record { walk = walk; space = space; setup = setup; lock = lock }))
          whole setup is_setup = after_space (Ok (record { walk = walk; space = space; setup = setup; lock = lock })) (on (FromSetup walk lock space) (setup_in files space.packages) setup (Ok (record { walk = walk; space = space; setup = setup; lock = lock })) is_setup refl)
