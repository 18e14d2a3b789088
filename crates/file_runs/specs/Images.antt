-- What a crash leaves of a shared file at any moment of a run.
use Rattle.std.specs.Prelude.{◌≡◌, ◌⊎◌, ℕ, Bool, true, false, List, [], ◌++◌, Some}
use Rattle.cache_api.specs.Pairs.{Pair}
use Rattle.spawn_dev.specs.declared.command.Step.{Step}
use Rattle.run_laws.specs.Effects.{Book}
use Rattle.run_plan.specs.declared.plan.Plan.{Plan}
use Rattle.run_plan.specs.Answers.{IsSafe}
use Rattle.run_plan.specs.Openings.{Opening}
use Rattle.record_log.specs.Frames.{IsSound}
use Rattle.shared_runs.specs.declared.turn.Shared.{Ghosts}
use Rattle.shared_runs.specs.Frames.{HoldsOneOrMore}
use Rattle.answers.specs.Moments.{Moment}
use Rattle.cache_runs.specs.Openings.{opening_at}
use Rattle.file_runs.specs.Standing.{HoldsAdded}

-- What a run may have put by these steps: nothing where it is dry, and else some first part of what
-- is due by then, where so much room was left at last.
abbrev pub MayHaveAdded : Bool → Plan → Opening → ℕ → List Step → List Pair → Type 0
MayHaveAdded true plan o room steps added = added ≡ []
MayHaveAdded false plan o room steps added = IsSafe plan o room steps (o.pairs ++ added)

-- The image stands for the pairs of the first turn and newer ones, and those among these that the
-- run added are such ones that have P.
pub record IsAddedTo (old : Moment) (P : List Pair → List Pair → Type 0) (image : List ℕ)
    : Type 0 where
  pub before : List Pair
  pub opened : old.held.pairs ≡ Some before
  pub added : List Pair
  pub holds : HoldsAdded before added image
  pub has : P before added

module _ {H D : Type 0} (G : Ghosts H D) (shared : H) where
  -- An image since the call began is read as one of those that the file had then, or holds its
  -- frames with the first of those that others appended till the first turn; or the run added to
  -- it.
  abbrev pub IsOneOrAddedTo : Moment → (List Pair → List Pair → Type 0) → List ℕ → Type 0
  IsOneOrAddedTo old P image =
      HoldsOneOrMore (G.images shared) (G.content shared) (G.coming shared) image
      ⊎ IsAddedTo old P image

  -- where each image of the file was sound as the call began, each image since then is sound
  abbrev pub StaysSound : H → Type 0
  StaysSound new = ((c : List ℕ) → G.images shared c → IsSound c)
      → (c : List ℕ) → G.images_since new (G.moment shared) c → IsSound c

-- those that the run added from one moment to the other are what it may have put by then
abbrev pub IsDueBy : Bool → Book → Plan → Moment → Moment → List Pair → List Pair → Type 0
IsDueBy is_dry book plan old new before added =
    MayHaveAdded is_dry plan (opening_at book old before) new.held.free new.steps added
