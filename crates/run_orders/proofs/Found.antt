-- What was found of two stores, and the run over the current one.
use Rattle.std.proofs.Common.{◌≡◌, ◌∙◌, inl, inr, ℕ, Bool, true, false, List, Some, Ok, sym, subst}
use Rattle.std.specs.Prelude.{Option, Result, OnOk}
use Rattle.cache_api.specs.Pairs.{Pair}
use Rattle.spawn_dev.specs.declared.command.Step.{Step}
use Rattle.record_log.specs.Frames.{IsSound}
use Rattle.cli_words.specs.declared.order.Access.{Access}
use Rattle.compact.specs.declared.error.CurrentErr.{CurrentErr}
use Rattle.compact.specs.declared.side.Side.{Side}
use Rattle.refusals.specs.declared.refusal.Refusal.{Refusal}
use Rattle.refusals.specs.declared.refusal.StoreFile.{StoreFile}
use Rattle.run_laws.specs.Effects.{Book}
use Rattle.run_plan.specs.declared.plan.Plan.{Plan}
use Rattle.run_plan.specs.Answers.{Cause}
use Rattle.answers.specs.declared.answer.Answer.{Answer}
use Rattle.answers.specs.Answers.{IfDone}
use Rattle.answers.specs.Moments.{Held, Moment}
use Rattle.store_answers.specs.Refused.{IsNoStore}
use Rattle.cache_runs.proofs.Stopped.{unstarted_as}
use Rattle.run_orders.specs.Images.{IsLeftOfHeld}
use Rattle.run_orders.specs.Stops.{StopsPlan}

-- ---- what they hold

-- the store and the spare one are read, and no other
abbrev pub local_access : Access
local_access = record {
  local_reads = true;
  local_puts = true;
  second_reads = false;
  second_puts = false;
}

pub on_found : (A : Type 0) (r : Result Side CurrentErr) (found : Side) → r ≡ Ok found → OnOk r A
    → A
on_found A r found ok x = subst (λ o. OnOk o A) ok x

-- what is said of what is held, by what it equals
pub holding : (T Q : Held → Type 0) (a x : Held) → a ≡ x → (T a → Q a) → T x → Q x
holding T Q a x is more trusted = subst Q is (more (subst T (sym is) trusted))

-- by what was held before and after
pub done_holding : (r : Answer) (R : Held → Held → ℕ → Type 0) (a b x y : Held) → a ≡ x → b ≡ y
    → IfDone r (R a b) → IfDone r (R x y)
done_holding r R a b x y p q h =
    subst (λ (k : Held). IfDone r (R x k)) q (subst (λ (k : Held). IfDone r (R k b)) p h)

-- what a run left of pairs that were held is told
pub held_tells : (is_dry : Bool) (book : Book) (plan : Plan) (old : Moment) (steps : List Step)
    (told : Option (List Pair)) → IsLeftOfHeld is_dry book plan old steps told
    → (pairs : List Pair) × (told ≡ Some pairs)
held_tells true book plan old steps told (pairs, held, is) = (pairs, is)
held_tells false book plan old steps told (pairs, held, (room, safe)) = (safe.0, safe.1)

-- ---- refusals

-- a store is not refused
pub is_store : (file : StoreFile) (bytes : List ℕ) (reason : Refusal) → IsSound bytes
    → IsNoStore file bytes reason → ⊥
is_store file bytes reason sound none = let both = sym sound ∙ none.reads in cc

-- the same for other reasons
pub stops_for : (R Q : Refusal → Type 0) → ((reason : Refusal) → R reason → Q reason)
    → (is_dry : Bool) (book : Book) (plan : Plan) (Heard : Type 0) (old new : Moment)
    (cause : Cause) (line : List ℕ) → StopsPlan R is_dry book plan Heard old new cause line
    → StopsPlan Q is_dry book plan Heard old new cause line
stops_for R Q more is_dry book plan Heard old new cause line (inl none) =
    inl (unstarted_as R Q more old new cause line none)
stops_for R Q more is_dry book plan Heard old new cause line (inr stops) = inr stops
