-- What a run over a shared file leaves that came to its end.
use Rattle.std.specs.Prelude.{◌≡◌, ℕ, Bool, true, false, List, [], ◌++◌, Some}
use Rattle.cache_api.specs.Pairs.{Pair}
use Rattle.run_laws.specs.Effects.{Book}
use Rattle.run_plan.specs.declared.plan.Plan.{Plan}
use Rattle.run_plan.specs.Answers.{Ran}
use Rattle.run_plan.specs.DryPages.{dry_page}
use Rattle.answers.specs.Moments.{Moment}
use Rattle.cache_runs.specs.Openings.{IsTrusted, IsTrustedRun, opening_at}
use Rattle.file_runs.specs.Standing.{HoldsAdded}

-- ---- what a run is trusted in

-- the pairs are those that the file has as its first turn is taken
abbrev pub IsTrustedOver : Bool → Book → Plan → Moment → Type 0
IsTrustedOver is_dry book plan old =
    (before : List Pair) → old.held.pairs ≡ Some before → IsTrustedRun is_dry book plan before

-- ---- what it leaves

-- A run of the plan over a shared file with these bytes at the end. `before` are the pairs of its
-- first turn, among which it looks tasks up, and `added` those that it put itself: they stand in
-- the file in their order behind those before. Where it is trusted, it is as `Ran` says: each
-- reported task has the log, status and files of the run without a cache, exactly the commands
-- without an equal stored listing were started, and `added` are all results that are due. The room
-- is what the file may still take in its next turn.
pub record RanOver (book : Book) (plan : Plan) (Heard : Type 0) (old new : Moment)
    (file : List ℕ) (status : ℕ) : Type 0 where
  pub before : List Pair
  pub opened : old.held.pairs ≡ Some before
  pub added : List Pair
  pub holds : HoldsAdded before added file
  pub ran : IsTrusted book plan before → Ran plan (opening_at book old before) new.files
      (before ++ added) new.held.free new.steps Heard old.printed new.printed status

-- A dry run of the plan: nothing was started, the files are as before, nothing was put, and what a
-- run would do with each task was printed.
pub record RanDryOver (plan : Plan) (Heard : Type 0) (old new : Moment) (file : List ℕ)
    (status : ℕ) : Type 0 where
  pub before : List Pair
  pub opened : old.held.pairs ≡ Some before
  pub holds : HoldsAdded before [] file
  pub files : new.files ≡ old.files
  pub steps : new.steps ≡ old.steps
  pub page_is : Heard → new.printed ≡ old.printed ++ dry_page plan before
  pub status_is : status ≡ 0

abbrev pub RanAs : Bool → Book → Plan → Type 0 → Moment → Moment → List ℕ → ℕ → Type 0
RanAs true book plan Heard old new file status = RanDryOver plan Heard old new file status
RanAs false book plan Heard old new file status = RanOver book plan Heard old new file status
