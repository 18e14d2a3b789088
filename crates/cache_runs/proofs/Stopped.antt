-- What a run has left that stopped, before it began or on its way.
use Rattle.std.proofs.Common.{◌≡◌, ℕ, true, false, List, subst}
use Rattle.cache_api.specs.Pairs.{Pair}
use Rattle.spawn_dev.specs.Effects.{IsWellBehaved}
use Rattle.refusals.specs.declared.refusal.Refusal.{Refusal}
use Rattle.run_laws.specs.Effects.{Book}
use Rattle.run_laws.specs.Runs.{IsReady}
use Rattle.run_plan.specs.declared.plan.Plan.{Plan}
use Rattle.run_plan.specs.Answers.{Cause}
use Rattle.run_plan.specs.Openings.{setting_of, HoldsInputs}
use Rattle.run_plan.specs.Plans.{IsValidPlan}
use Rattle.answers.specs.declared.answer.Answer.{Answer}
use Rattle.answers.specs.Facts.{early_as, if_fault, within}
use Rattle.answers.specs.Moments.{MomentOf}
use Rattle.answers.specs.Stops.{IfFault, StopsEarly, StopsUnstarted}
use Rattle.cache_runs.specs.Openings.{IsTrusted, opening_at}
use Rattle.cache_runs.specs.Stops.{StopsDry, StopsOver, StopsRun}
use Rattle.cache_runs.proofs.Ready.{is_ready}

-- ---- before it began

-- for reasons that are also others
pub unstarted_as : {H : Type 0} (R S : Refusal → Type 0)
    → ((reason : Refusal) → R reason → S reason) → (old new : MomentOf H) (cause : Cause)
    (line : List ℕ) → StopsUnstarted R old new cause line → StopsUnstarted S old new cause line
unstarted_as R S more old new cause line stops = record {
  files = stops.files;
  steps = stops.steps;
  printed = early_as R S more old.printed new.printed cause line stops.printed;
}

-- where the world was left alone, by what was printed
pub unstarted : {H : Type 0} (R S : Refusal → Type 0)
    → ((reason : Refusal) → R reason → S reason) → (old new : MomentOf H)
    → new.files ≡ old.files → new.steps ≡ old.steps → (cause : Cause) (line : List ℕ)
    → StopsEarly R old.printed new.printed cause line → StopsUnstarted S old new cause line
unstarted R S more old new files steps cause line early = record {
  files = files;
  steps = steps;
  printed = early_as R S more old.printed new.printed cause line early;
}

-- ---- on its way

-- by what it leaves over a cache with pairs that are those
module _ {H : Type 0} (plan : Plan) (book : Book) (old new : MomentOf H) (pairs all : List Pair)
    (same : pairs ≡ all) (Heard : Type 0) (answer : Answer) where
  pub stops_dry : new.files ≡ old.files → new.steps ≡ old.steps
      → IfFault answer (StopsDry plan pairs old.printed new.printed)
      → IfFault answer (StopsRun true book plan all Heard old new)
  stops_dry files steps stops =
      if_fault answer _ (StopsRun true book plan all Heard old new)
      (λ cause line stop. (
        files,
        steps,
        subst (λ (l : List Pair). StopsDry plan l old.printed new.printed cause line) same stop,
      )) stops

  pub stops_live : IsValidPlan plan → IsWellBehaved book → HoldsInputs plan old.files
      → (left : List Pair) (room : ℕ) → (IsReady (setting_of plan (opening_at book old pairs))
      → IfFault answer (StopsOver plan (opening_at book old pairs) new.files left room new.steps
      Heard old.printed new.printed))
      → IfFault answer (StopsRun false book plan all Heard old new)
  stops_live valid behaved inputs left room stops =
      let live = subst (λ (l : List Pair). IsReady (setting_of plan (opening_at book old l))
      → IfFault answer (StopsOver plan (opening_at book old l) new.files left room new.steps
      Heard old.printed new.printed)) same stops in
      within answer (IsTrusted book plan all) _
      (λ trust. if_fault answer _ _ (λ cause line stop. (room, left, stop))
      (live (is_ready plan (opening_at book old all) valid behaved inputs trust)))
