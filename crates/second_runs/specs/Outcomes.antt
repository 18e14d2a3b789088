-- What a run over two stores leaves that came to its end.
use Rattle.std.specs.Prelude.{◌≡◌, ℕ, Bool, true, false, List, ◌++◌, Some}
use Rattle.cache_api.specs.Pairs.{Pair}
use Rattle.cli_words.specs.declared.order.Access.{Access}
use Rattle.relay_store.specs.Agree.{firsts}
use Rattle.relay_store.specs.Parts.{into}
use Rattle.relay_store.specs.Relays.{room_by}
use Rattle.run_laws.specs.Effects.{Book}
use Rattle.run_plan.specs.declared.plan.Plan.{Plan}
use Rattle.run_plan.specs.Answers.{Ran}
use Rattle.run_plan.specs.DryPages.{dry_page}
use Rattle.cache_runs.specs.Openings.{IsTrusted, opening_at}
use Rattle.second_runs.specs.Moments.{Both, Moment}

-- both are stores, with these pairs
pub record AreStores (held : Both) : Type 0 where
  pub local : List Pair
  pub second : List Pair
  pub local_is : held.local.pairs ≡ Some local
  pub second_is : held.second.pairs ≡ Some second

-- The pairs of the run's cache: those of both stores. Those of the local store stand last where it
-- is put into, and else those of the second one: what stands last is looked up first.
abbrev pub pairs_of : {held : Both} → Access → AreStores held → List Pair
pairs_of access both = firsts access.local_puts both.local both.second

-- A run of the plan over the pairs that both stores had. Where commands do what the book says of
-- what they see, and write no more than a store can keep, where no text is of 2^32 bytes or more,
-- and where the pairs tell the truth, it is as `Ran` says: each reported task has the log, status
-- and files of the run without a cache, and exactly the commands without an equal stored listing
-- were started. What was added stands behind the pairs of each store that is put into, and another
-- store has its pairs. The room is the least of those that are put into.
pub record RanPlan (access : Access) (book : Book) (plan : Plan) (Heard : Type 0)
    (old new : Moment) (status : ℕ) : Type 0 where
  pub both : AreStores old.held
  pub added : List Pair
  pub local : new.held.local.pairs ≡ Some (both.local ++ into access.local_puts added)
  pub second : new.held.second.pairs ≡ Some (both.second ++ into access.second_puts added)
  pub room : ℕ
  pub room_is : room ≡ room_by access.local_puts access.second_puts
      new.held.local.free new.held.second.free
  pub ran : IsTrusted book plan (pairs_of access both)
      → Ran plan (opening_at book old (pairs_of access both)) new.files
      (pairs_of access both ++ added) room new.steps Heard old.printed new.printed status

-- A dry run of the plan: nothing was started, files and the pairs of both stores are as before, and
-- what a run would do with each task was printed.
pub record RanPlanDry (access : Access) (plan : Plan) (Heard : Type 0) (old new : Moment)
    (status : ℕ) : Type 0 where
  pub both : AreStores old.held
  pub local : new.held.local.pairs ≡ Some both.local
  pub second : new.held.second.pairs ≡ Some both.second
  pub files : new.files ≡ old.files
  pub steps : new.steps ≡ old.steps
  pub page_is : Heard → new.printed ≡ old.printed ++ dry_page plan (pairs_of access both)
  pub status_is : status ≡ 0

abbrev pub RanSecond : Bool → Access → Book → Plan → Type 0 → Moment → Moment → ℕ → Type 0
RanSecond true access book plan Heard old new status = RanPlanDry access plan Heard old new status
RanSecond false access book plan Heard old new status =
    RanPlan access book plan Heard old new status
