-- What commands will do that run on, after a start or an end.
use Rattle.std.proofs.Common.{◌≡◌, ◌≢◌, ℕ, true, false, [], ◌∷◌, ◌++◌, refl, sym, ap, ◌∙◌, None}
use Rattle.std.specs.Prelude.{is_some}
use Rattle.std.proofs.lemmas.Bool.{eq-eqb, ne_eqb}
use Rattle.rel_path.specs.Files.{FileMap}
use Rattle.globs.specs.OwnedFiles.{cleared}
use Rattle.spawn_dev.specs.declared.command.Command.{Command}
use Rattle.spawn_dev.specs.declared.command.Step.TheVariants.{Start}
use Rattle.spawn_dev.specs.declared.effect.Effect.{Effect}
use Rattle.spawn_dev.specs.Effects.{Seen, seen_by}
use Rattle.spawn_dev.specs.Spawn.{Runs, live, put_at, Starts, BeginsAs, KeepsWill}
use Rattle.run_core.specs.declared.states.State.TheVariants.{Running, Missed}
use Rattle.run_core.specs.Machine.{States, runs}
use Rattle.run_laws.specs.Ancestors.{part_at}
use Rattle.run_plan.specs.declared.plan.Plan.{Plan}
use Rattle.run_plan.specs.Commands.{command_of}
use Rattle.run_plan.proofs.CommandFacts.{place-is}
use Rattle.runner.specs.Running.{InStep}

-- ---- starts

module _ {B : Type 0} (plan : Plan) (st : States) (t : ℕ) (command : Command) (is : command ≡ command_of plan t) (old mid new : Runs B) (same : mid ≡ old) (starts : Starts command mid new) where
  -- what runs beside it will do what it would have done
  pub others-will : InStep plan st old → st t ≡ Missed → KeepsWill mid new → (u : ℕ) → st u ≡ Running → new.will u ≡ old.will u
  others-will step missed keeps u running =
      let other : u ≢ command.place = λ e. absurd (differ (sym running ∙ ap st (e ∙ ap (λ c. c.place) is ∙ place-is plan t) ∙ missed)) in
      let before : live mid u ≡ true = ap (λ w. live w u) same ∙ step.live_is u ∙ ap runs running in
      let after : live new u ≡ true = ap (λ f. is_some (f u)) starts.at ∙ (rw (ne_eqb u command.place other) before) in
      keeps u before after ∙ ap (λ w. w.will u) same
    where
      differ : Running ≡ Missed → ⊥
      differ h = cc

  pub own-will : (effect : B → Seen → Effect) (files now : FileMap) → now ≡ cleared (part_at plan.listing t).outs files → BeginsAs effect now command mid new
      → new.will t ≡ effect old.book (seen_by (command_of plan t) (cleared (part_at plan.listing t).outs files))
  own-will effect files now cleared_is begins =
      let place : command.place ≡ t = ap (λ c. c.place) is ∙ place-is plan t in
      ap new.will (sym place) ∙ begins.will ∙ (λ j. effect (same j).book (seen_by (is j) (cleared_is j)))

  pub own-steps : (effect : B → Seen → Effect) (now : FileMap) → BeginsAs effect now command mid new → new.steps ≡ old.steps ++ Start (command_of plan t) ∷ []
  own-steps effect now begins = begins.steps ∙ (λ j. (same j).steps ++ Start (is j) ∷ [])

-- ---- ends

module _ {B : Type 0} (plan : Plan) (st : States) (t : ℕ) (old mid new : Runs B) (same : new ≡ mid) where
  -- what runs on will do what it would have done
  pub rest-will : InStep plan st old → mid.at ≡ put_at old.at t None → KeepsWill old mid → (u : ℕ) → u ≢ t → st u ≡ Running → new.will u ≡ old.will u
  rest-will step at keeps u other running =
      let before : live old u ≡ true = step.live_is u ∙ ap runs running in
      let after : live mid u ≡ true = ap (λ f. is_some (f u)) at ∙ (rw (ne_eqb u t other) before) in
      ap (λ w. w.will u) same ∙ keeps u before after

pub gone-at : {B : Type 0} (old mid : Runs B) (t : ℕ) → mid.at ≡ put_at old.at t None → live mid t ≡ false
gone-at old mid t at = ap (λ f. is_some (f t)) at ∙ (rw (eq-eqb t t refl) refl)
