-- Whether the page of a run depends on the order in which commands end.
use Rattle.std.specs.Prelude.{◌≡◌, ◌≢◌, ℕ, ◌<◌, Bool, false, List, length}
use Rattle.page.specs.declared.blocks.Note.{Note}
use Rattle.page.specs.declared.blocks.Note.TheVariants.{Stored, Shared, Large, Full}
use Rattle.run_core.specs.declared.states.Step.{Step}
use Rattle.run_core.specs.Greedy.{stops, ended, is_reported, IsGreedy, HaveStatus}
use Rattle.run_laws.specs.Runs.{Setting}
use Rattle.run_plan.specs.declared.plan.Plan.{Plan}
use Rattle.run_plan.specs.Plans.{IsValidPlan}
use Rattle.run_plan.specs.Openings.{Opening, setting_of, tasks_of}
use Rattle.run_plan.specs.Results.{effect_at, NotedAs}
use Rattle.run_plan.specs.Pages.{page}

-- the note, where there is room for everything
abbrev pub with_room : Note → Note
with_room Stored = Stored
with_room (Shared path) = Shared path
with_room (Large path) = Large path
with_room Full = Stored

-- no task of the plan has the note that the store is full
abbrev pub NoneFull : Plan → (ℕ → Note) → Type 0
NoneFull plan notes = (t : ℕ) → t < length plan.listing.parts → notes t ≢ Full

-- The pages with these notes of these reported tasks are equal but for notes of a full store, and
-- where there is no such note, equal.
pub record AreOnePage (plan : Plan) (s : Setting) (notes others : ℕ → Note) (one other : ℕ → Bool)
    : Type 0 where
  pub but_for_full : page plan s (λ t. with_room (notes t)) one
      ≡ page plan s (λ t. with_room (others t)) other
  pub equal : NoneFull plan notes → NoneFull plan others
      → page plan s notes one ≡ page plan s others other

-- Two runs of a plan from one opening, each to its end, in whatever order the commands end, and
-- each with its own room in the store: where no failure stops a run, they print one page.
abbrev pub PageLaw : Type 0
PageLaw = (plan : Plan) (o : Opening) (one other : List Step) (notes others : ℕ → Note)
    (room left : ℕ) → IsValidPlan plan → stops plan.mode ≡ false
    → IsGreedy (tasks_of plan o) one → IsGreedy (tasks_of plan o) other
    → HaveStatus one (λ t. (effect_at (setting_of plan o) t).status)
    → HaveStatus other (λ t. (effect_at (setting_of plan o) t).status)
    → ((t : ℕ) → NotedAs plan (setting_of plan o) room t (ended one t) (notes t))
    → ((t : ℕ) → NotedAs plan (setting_of plan o) left t (ended other t) (others t))
    → AreOnePage plan (setting_of plan o) notes others (is_reported (tasks_of plan o) one)
    (is_reported (tasks_of plan o) other)
