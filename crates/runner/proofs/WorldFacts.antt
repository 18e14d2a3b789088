-- What runs, and how the tables go with it.
use Rattle.std.proofs.Common.{◌≡◌, ◌≢◌, ◌⊎◌, ℕ, true, false, cond, refl, sym, ap, ◌∙◌, subst, inl, inr, Option, Some, None}
use Rattle.std.specs.Prelude.{is_some}
use Rattle.std.proofs.lemmas.Bool.{cases_eq, eq-eqb, ne_eqb, false≢true, true≢false}
use Rattle.spawn_dev.specs.declared.command.Command.{Command}
use Rattle.spawn_dev.specs.Spawn.{Runs, live, put_at, Starts, Refuses}
use Rattle.run_core.specs.declared.states.State.{State}
use Rattle.run_core.specs.declared.states.State.TheVariants.{Waiting, Missed, Running, Passed, Ended, Left}
use Rattle.run_core.specs.Machine.{States, put, after_end, is_known, runs, IsCalm}
use Rattle.run_laws.specs.Ancestors.{part_at, has_script}
use Rattle.run_plan.specs.declared.plan.Plan.{Plan}
use Rattle.run_plan.specs.Commands.{command_of}
use Rattle.run_plan.specs.Openings.{rules_of}
use Rattle.run_plan.specs.Plans.{IsValidPlan}
use Rattle.run_plan.proofs.Steps.{split}
use Rattle.run_plan.proofs.Ending.{end-split}
use Rattle.run_plan.proofs.CommandFacts.{place-is}
use Rattle.runner.specs.Running.{AreOurs, InStep, is_begun}

-- ---- states

pub running-is : (s : State) → runs s ≡ true → s ≡ Running
running-is Waiting h = absurd (false≢true h)
running-is Missed h = absurd (false≢true h)
running-is Running h = refl
running-is Passed h = absurd (false≢true h)
running-is (Ended x) h = absurd (false≢true h)
running-is Left h = absurd (false≢true h)

unknown-idle : (s : State) → is_known s ≡ false → runs s ≡ false
unknown-idle Waiting h = refl
unknown-idle Missed h = absurd (true≢false h)
unknown-idle Running h = absurd (true≢false h)
unknown-idle Passed h = absurd (true≢false h)
unknown-idle (Ended x) h = absurd (true≢false h)
unknown-idle Left h = refl

is-there : (o : Option Command) → is_some o ≡ true → (c : Command) × (o ≡ Some c)
is-there None h = absurd (false≢true h)
is-there (Some c) h = (c, refl)

pub there-is : (o : Option Command) (c : Command) → o ≡ Some c → is_some o ≡ true
there-is o c e = ap is_some e

-- ---- what runs after a start or an end

module _ {B : Type 0} (plan : Plan) (old new : Runs B) where
  pub ours-same : new ≡ old → AreOurs plan old → AreOurs plan new
  ours-same e ours = subst (AreOurs plan) (sym e) ours

  pub ours-refused : Refuses old new → AreOurs plan old → AreOurs plan new
  ours-refused refused ours = record {
    command = λ t c at. ours.command t c (ap (λ f. f t) (sym refused.at) ∙ at);
    scripts = λ t c at. ours.scripts t c (ap (λ f. f t) (sym refused.at) ∙ at);
  }

  over-at : (place : ℕ) → new.at ≡ put_at old.at place None → (t : ℕ) (c : Command) → new.at t ≡ Some c → (t ≢ place) × (old.at t ≡ Some c)
  over-at place is t c at = elim (cases_eq t place) [
    | inl e ↦ absurd (gone (rw (eq-eqb t place e) at (ap (λ f. f t) (sym is) ∙ at)))
    | inr d ↦ (d, rw (ne_eqb t place d) at (ap (λ f. f t) (sym is) ∙ at))
  ]
    where
      gone : None ≡ Some c → ⊥
      gone h = cc

  pub ours-over : (place : ℕ) → new.at ≡ put_at old.at place None → AreOurs plan old → AreOurs plan new
  ours-over place is ours = record {
    command = λ t c at. ours.command t c (over-at place is t c at).1;
    scripts = λ t c at. ours.scripts t c (over-at place is t c at).1;
  }

  start-at : (place : ℕ) (command : Command) → new.at ≡ put_at old.at place (Some command) → (t : ℕ) (c : Command) → new.at t ≡ Some c → ((t ≡ place) × (c ≡ command)) ⊎ (old.at t ≡ Some c)
  start-at place command is t c at = elim (cases_eq t place) [
    | inl e ↦ inl (e, same (rw (eq-eqb t place e) at (ap (λ f. f t) (sym is) ∙ at)))
    | inr d ↦ inr (rw (ne_eqb t place d) at (ap (λ f. f t) (sym is) ∙ at))
  ]
    where
      same : Some command ≡ Some c → c ≡ command
      same h = cc

  pub ours-started : (t : ℕ) (command : Command) → command ≡ command_of plan t → has_script (part_at plan.listing t) ≡ true → Starts command old new → AreOurs plan old → AreOurs plan new
  ours-started t command is script starts ours =
      let place : command.place ≡ t = ap (λ c. c.place) is ∙ place-is plan t in
      let at : new.at ≡ put_at old.at t (Some command) = starts.at ∙ ap (λ p. put_at old.at p (Some command)) place in
      record {
        command = λ u c here. elim (start-at t command at u c here) [
          | inl e ↦ e.1 ∙ is ∙ ap (command_of plan) (sym e.0)
          | inr there ↦ ours.command u c there
        ];
        scripts = λ u c here. elim (start-at t command at u c here) [
          | inl e ↦ subst (λ v. has_script (part_at plan.listing v) ≡ true) (sym e.0) script
          | inr there ↦ ours.scripts u c there
        ];
      }

-- ---- what the scheduler says that runs

module _ {B : Type 0} (plan : Plan) (valid : IsValidPlan plan) (st : States) where
  pub step-same : (world now : Runs B) → now ≡ world → InStep plan st world → InStep plan st now
  step-same world now e is = subst (InStep plan st) (sym e) is

  -- a look-up changes nothing of what runs
  pub step-looked : (world : Runs B) (t : ℕ) (s : State) (later : States) → later ≡ put st t s → st t ≡ Waiting → runs s ≡ false → (is_begun s ≡ true → has_script (part_at plan.listing t) ≡ true) → InStep plan st world → InStep plan later world
  step-looked world t s later e waits quiet begun is = subst (λ x. InStep plan x world) (sym e) (record {
    live_is = λ u. split (λ u b. live world u ≡ runs (cond b s (st u))) t (is.live_is t ∙ ap runs waits ∙ sym quiet) (λ u d. is.live_is u) u;
    ours = is.ours;
    scripts = λ u h. split (λ u b. is_begun (cond b s (st u)) ≡ true → has_script (part_at plan.listing u) ≡ true) t begun (λ u d. is.scripts u) u h;
  })

  pub step-started : (world now : Runs B) (t : ℕ) (command : Command) (later : States) → later ≡ put st t Running → st t ≡ Missed → command ≡ command_of plan t → Starts command world now → InStep plan st world → InStep plan later now
  step-started world now t command later e missed is starts step =
      let script = step.scripts t (ap is_begun missed) in
      let place : command.place ≡ t = ap (λ c. c.place) is ∙ place-is plan t in
      let at : now.at ≡ put_at world.at t (Some command) = starts.at ∙ ap (λ p. put_at world.at p (Some command)) place in
      subst (λ x. InStep plan x now) (sym e) (record {
        live_is = λ u. ap (λ f. is_some (f u)) at ∙ split (λ u b. is_some (cond b (Some command) (world.at u)) ≡ runs (cond b Running (st u))) t refl (λ u d. step.live_is u) u;
        ours = ours-started plan world now t command is script starts step.ours;
        scripts = λ u h. split (λ u b. is_begun (cond b Running (st u)) ≡ true → has_script (part_at plan.listing u) ≡ true) t (λ k. script) (λ u d. step.scripts u) u h;
      })

  pub step-ended : (world now : Runs B) (t x : ℕ) (later : States) → IsCalm (rules_of plan) st → later ≡ after_end (rules_of plan) st t x → st t ≡ Running → now.at ≡ put_at world.at t None → InStep plan st world → InStep plan later now
  step-ended world now t x later calm e running at step = subst (λ y. InStep plan y now) (sym e) (record {
    live_is = λ u. ap (λ f. is_some (f u)) at ∙ end-split plan st valid.ordered.lower calm t x running (λ u b y. is_some (cond b None (world.at u)) ≡ runs y) refl (λ u d. step.live_is u) (λ u d k. step.live_is u ∙ unknown-idle (st u) k) u;
    ours = ours-over plan world now t at step.ours;
    scripts = λ u h. end-split plan st valid.ordered.lower calm t x running (λ u b y. is_begun y ≡ true → has_script (part_at plan.listing u) ≡ true) (λ k. absurd (false≢true k)) (λ u d. step.scripts u) (λ u d k h. absurd (false≢true h)) u h;
  })

  pub ended-runs : (world : Runs B) (t : ℕ) (command : Command) → InStep plan st world → world.at t ≡ Some command → st t ≡ Running
  ended-runs world t command step ran = running-is (st t) (sym (step.live_is t) ∙ there-is (world.at t) command ran)
