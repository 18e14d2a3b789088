-- What the scheduler of a plan answers, and what its moves do to tables.
use Rattle.std.proofs.Common.{◌≡◌, ℕ, suc, ◌<◌, Bool, true, false, cond, List, [], ◌∷◌, length, refl, sym, ap, ◌∙◌, subst, inl, inr, Option, Some, None}
use mathlib.Core.Path.{fun_ext}
use Rattle.std.specs.Prelude.{map, slice_index_or}
use Rattle.listing.specs.declared.part.Part.{Part}
use Rattle.std.proofs.lemmas.Bool.{cases_eq, ne_eqb, true≢false}
use Rattle.spawn_dev.specs.Spawn.{put_at}
use Rattle.run_core.specs.declared.states.State.TheVariants.{Waiting, Missed, Running, Passed}
use Rattle.run_core.specs.declared.states.Next.{Next}
use Rattle.run_core.specs.declared.states.Next.TheVariants.{Lookup, Start, WaitFirst}
use Rattle.run_core.specs.Core.{rules, rules_in, states}
use Rattle.run_core.specs.Greedy.{Rules}
use Rattle.run_core.specs.Machine.{States, next, put, after_end}
use Rattle.run_core.specs.Moves.{turns_left}
use Rattle.run_core.specs.Moves.Move.{Finds, Misses, Starts, Ends}
use Rattle.run_core.proofs.Any.{get_or-map}
use Rattle.run_core.proofs.Turns.{turns-fewer, next-tells}
use Rattle.run_laws.specs.Ancestors.{part_at, blank, has_script}
use Rattle.run_plan.specs.declared.plan.Plan.{Plan}
use Rattle.run_plan.specs.Openings.{rules_of}
use Rattle.run_plan.specs.Stories.{is_settled}
use Rattle.run_plan.proofs.Steps.{split}
use Rattle.run_board.specs.declared.board.Board.{Board}
use Rattle.run_board.specs.Boards.{IsBoard, IsKnown}

-- ---- the scheduler of a plan

map-count : {X Y : Type 0} (f : X → Y) (xs : List X) → length (map f xs) ≡ length xs
map-count f [] = refl
map-count f (x ∷ xs) = ap suc (map-count f xs)

pub rules-are : (plan : Plan) (deps : List (List ℕ)) → deps ≡ map (λ part. part.deps) plan.listing.parts → rules_in deps plan.width plan.mode ≡ rules_of plan
rules-are plan deps is =
    let f : Part → List ℕ = λ part. part.deps in
    let size : length deps ≡ length plan.listing.parts = ap length is ∙ map-count f plan.listing.parts in
    let one : (t : ℕ) → slice_index_or deps t [] ≡ (part_at plan.listing t).deps = λ t. ap (λ ds. slice_index_or ds t []) is ∙ get_or-map f plan.listing.parts t blank in
    λ i. record { size = size i; deps = λ t. one t i; width = plan.width; mode = plan.mode }

pub commands-are : (plan : Plan) (scripts : List Bool) → scripts ≡ map has_script plan.listing.parts → ◌≡◌ {A = ℕ → Bool} (λ t. slice_index_or scripts t false) (λ t. has_script (part_at plan.listing t))
commands-are plan scripts is =
    let one : (t : ℕ) → slice_index_or scripts t false ≡ has_script (part_at plan.listing t) = λ t. ap (λ ss. slice_index_or ss t false) is ∙ get_or-map has_script plan.listing.parts t blank in
    fun_ext one

-- ---- turns

pub turns-found : (plan : Plan) (st : States) (t : ℕ) → next (rules_of plan) st ≡ Lookup t → turns_left (rules_of plan) (put st t Passed) < turns_left (rules_of plan) st
turns-found plan st t is = turns-fewer (record { rules = rules_of plan; to_run = λ u. false }) st (Finds t) (is, refl)

pub turns-missed : (plan : Plan) (st : States) (t : ℕ) → next (rules_of plan) st ≡ Lookup t → turns_left (rules_of plan) (put st t Missed) < turns_left (rules_of plan) st
turns-missed plan st t is = turns-fewer (record { rules = rules_of plan; to_run = λ u. true }) st (Misses t) (is, refl)

pub turns-started : (plan : Plan) (st : States) (t : ℕ) → next (rules_of plan) st ≡ Start t → turns_left (rules_of plan) (put st t Running) < turns_left (rules_of plan) st
turns-started plan st t is = turns-fewer (record { rules = rules_of plan; to_run = λ u. true }) st (Starts t) is

pub turns-ended : (plan : Plan) (st : States) (t x : ℕ) → next (rules_of plan) st ≡ WaitFirst → t < length plan.listing.parts → st t ≡ Running → turns_left (rules_of plan) (after_end (rules_of plan) st t x) < turns_left (rules_of plan) st
turns-ended plan st t x is below running = turns-fewer (record { rules = rules_of plan; to_run = λ u. true }) st (Ends t x) (is, below, running)

-- ---- the answers of the scheduler, by the plan's rules

pub by-plan : (plan : Plan) (g : Rules) (st : States) (x : Next) → g ≡ rules_of plan → next g st ≡ x → next (rules_of plan) st ≡ x
by-plan plan g st x is e = subst (λ h. next h st ≡ x) is e

pub look-waits : (plan : Plan) (st : States) (t : ℕ) → next (rules_of plan) st ≡ Lookup t → st t ≡ Waiting
look-waits plan st t is = (next-tells.lookup (rules_of plan) st t is).1

pub look-below : (plan : Plan) (st : States) (t : ℕ) → next (rules_of plan) st ≡ Lookup t → t < length plan.listing.parts
look-below plan st t is = (next-tells.lookup (rules_of plan) st t is).0

pub start-missed : (plan : Plan) (st : States) (t : ℕ) → next (rules_of plan) st ≡ Start t → (t < length plan.listing.parts) × (st t ≡ Missed)
start-missed plan st t is = let s = next-tells.start (rules_of plan) st t is in (s.0, s.1)

-- a report at a place that is not settled changes none of the settled ones
pub other-reports : {X : Type 0} (st : States) (t : ℕ) (old new : ℕ → X) (x : X) → is_settled (st t) ≡ false → new ≡ put_at old t x → (u : ℕ) → is_settled (st u) ≡ true → new u ≡ old u
other-reports st t old new x bare is u h = ap (λ f. f u) is ∙ (elim (cases_eq u t) [
  | inl e ↦ absurd (true≢false (sym h ∙ ap (λ v. is_settled (st v)) e ∙ bare))
  | inr d ↦ rw (ne_eqb u t d) refl
])

-- ---- fingerprints

pub none-known : (plan : Plan) (known : ℕ → Option (List ℕ)) → known ≡ (λ t. None) → (t : ℕ)
    → IsKnown plan t (known t)
none-known plan known none t print is = absurd (differ (ap (λ f. f t) (sym none) ∙ is))
  where
    differ : None ≡ Some print → ⊥
    differ h = cc

pub known-set : (plan : Plan) (t : ℕ) (old new : ℕ → Option (List ℕ)) (one : Option (List ℕ))
    → new ≡ put_at old t one → IsKnown plan t one → ((u : ℕ) → IsKnown plan u (old u)) → (u : ℕ)
    → IsKnown plan u (new u)
known-set plan t old new one is here each u =
    subst (λ f. IsKnown plan u (f u)) (sym is)
    (split (λ u b. IsKnown plan u (cond b one (old u))) t here (λ u d. each u) u)

-- ---- the same by the tables of a run

module _ (plan : Plan) (board : Board) (is : IsBoard plan board) where
  pub board-next : (x : Next) → next (rules board.core) (states board.core) ≡ x
      → next (rules_of plan) (states board.core) ≡ x
  board-next x e = by-plan plan (rules board.core) (states board.core) x is.rules_are e

  pub board-waits : (t : ℕ) → next (rules board.core) (states board.core) ≡ Lookup t
      → states board.core t ≡ Waiting
  board-waits t e = look-waits plan (states board.core) t (board-next (Lookup t) e)

  pub board-missed : (t : ℕ) → next (rules board.core) (states board.core) ≡ Start t
      → (t < length plan.listing.parts) × (states board.core t ≡ Missed)
  board-missed t e = start-missed plan (states board.core) t (board-next (Start t) e)
