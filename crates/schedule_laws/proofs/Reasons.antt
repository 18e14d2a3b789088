-- Why a finished run doesn't report a task, by its mode.
use Rattle.std.proofs.Common.{◌≡◌, ℕ, zero, suc, ◌<◌, ◌==◌, not, cond, true, false, List, refl, sym, ap, ◌∙◌, inl, inr}
use mathlib.Core.Path.{fun_ext}
use Rattle.std.specs.List.{list_any, list_all}
use Rattle.std.proofs.lemmas.Bool.{cases_Bool, and_right, true≢false, eq-eqb}
use Rattle.run_core.specs.declared.states.Mode.{Mode}
use Rattle.run_core.specs.declared.states.Mode.TheVariants.{Never, DependenciesSuccessful, Always}
use Rattle.run_core.specs.declared.states.Step.{Step}
use Rattle.run_core.specs.Greedy.{Tasks, AreLower, IsGreedy, stops, serves, is_end, is_failure, before_failure, live, is_stopped, settled, is_settled, is_reported}
use Rattle.run_core.specs.Machine.{is_above}
use Rattle.run_core.proofs.Steps.{calm-before}
use Rattle.schedule_laws.specs.Reported.{HasFailedAbove, CameTooLate, IsUnreportedBy, UnreportedLaw, AllReportedLaw}
use Rattle.schedule_laws.proofs.Finished.{finished, ends-started}
use Rattle.schedule_laws.proofs.Failures.{fails-at, first-failure, end-fails, unstarted-before}
use Rattle.schedule_laws.proofs.Settling.{Goes, reported-or_bad}

-- an end that doesn't serve is a failure, in each mode
bad-fails : (mode : Mode) (s : ℕ) → serves mode s ≡ false → not (s == 0) ≡ true
bad-fails Never s h = ap not h
bad-fails DependenciesSuccessful s h = ap not h
bad-fails Always s h = absurd (true≢false h)

pub all-reported : AllReportedLaw
all-reported g steps t wide lower greedy i calm =
    let goes : Goes g steps = record { run = finished g steps greedy; wide = wide; lower = lower; calm = and_right (stops g.rules.mode) _ calm } in
    elim (reported-or_bad g steps goes t i) [
      | inl h ↦ h
      | inr w ↦ absurd (true≢false (sym (end-fails w.0.place w.0.status (bad-fails g.rules.mode w.0.status w.0.bad) steps w.0.end) ∙ calm))
    ]

-- what is settled hangs on the live steps alone
settled-live : (g : Tasks) (a b : List Step) → live g.rules.mode a ≡ live g.rules.mode b → (n t : ℕ) → settled g a n t ≡ settled g b n t
settled-live g a b e zero t = refl
settled-live g a b e (suc n) t =
    let below = fun_ext (settled-live g a b e n) in
    λ j. cond (g.to_run t) (list_any (is_end (serves g.rules.mode) t) (e j)) (list_all (below j) (g.rules.deps t))

is_settled-live : (g : Tasks) (a b : List Step) → live g.rules.mode a ≡ live g.rules.mode b → (t : ℕ) → is_settled g a t ≡ is_settled g b t
unfolding is_settled
is_settled-live g a b e t = settled-live g a b e (suc t) t

module _ (g : Tasks) (steps : List Step) (t : ℕ) (wide : zero < g.rules.width) (lower : AreLower g.rules) (greedy : IsGreedy g steps) (i : t < g.rules.size) (missing : is_reported g steps t ≡ false) where
  -- a failure stops the run
  stopped-late : g.rules.mode ≡ Never → CameTooLate g steps t
  stopped-late never =
      elim (cases_Bool (list_any is_failure steps)) [
        | inr calm ↦ absurd (true≢false (sym (all-reported g steps t wide lower greedy i calm) ∙ missing))
        | inl fails ↦
            let w = first-failure steps fails in
            record {
              failure = w.failure;
              first = w.calm;
              late = elim (cases_Bool (g.to_run t)) [
                | inl r ↦ rw r (unstarted-before steps w.failure t (sym (ends-started g steps (finished g steps greedy) t) ∙ rw r at missing))
                | inr o ↦ rw o (is_settled-live g w.failure.before steps (same w.failure.before w.before w.calm) t ∙ rw o at missing)
              ];
            }
      ]
    where
      same : (before : List Step) → before_failure steps ≡ before → list_any is_failure before ≡ false → live g.rules.mode before ≡ live g.rules.mode steps
      same before is calm = rw never (calm-before before calm ∙ sym is)

  -- a failure leaves the tasks above
  left-above : g.rules.mode ≡ DependenciesSuccessful → HasFailedAbove g steps t
  left-above leaves =
      let goes : Goes g steps = record { run = finished g steps greedy; wide = wide; lower = lower; calm = ap (λ m. is_stopped m steps) leaves } in
      elim (reported-or_bad g steps goes t i) [
        | inl h ↦ absurd (true≢false (sym h ∙ missing))
        | inr w ↦
            let bad : (w.0.status == 0) ≡ false = sym (ap (λ m. serves m w.0.status) leaves) ∙ w.0.bad in
            let f = fails-at steps w.0.place w.0.status w.0.end (λ e. true≢false (sym (eq-eqb w.0.status 0 e) ∙ bad)) in
            record { failure = f.failure; above = ap (is_above g.rules t) f.place ∙ w.1 }
      ]

  -- a failure stops nothing
  none-missing : g.rules.mode ≡ Always → ⊥
  none-missing goes_on =
      let goes : Goes g steps = record { run = finished g steps greedy; wide = wide; lower = lower; calm = ap (λ m. is_stopped m steps) goes_on } in
      elim (reported-or_bad g steps goes t i) [
        | inl h ↦ true≢false (sym h ∙ missing)
        | inr w ↦ true≢false (sym (ap (λ m. serves m w.0.status) goes_on) ∙ w.0.bad)
      ]

  by-mode : (mode : Mode) → g.rules.mode ≡ mode → IsUnreportedBy mode g steps t
  by-mode Never e = stopped-late e
  by-mode DependenciesSuccessful e = left-above e
  by-mode Always e = none-missing e

pub unreported : UnreportedLaw
unreported g steps t wide lower greedy i missing = by-mode g steps t wide lower greedy i missing g.rules.mode refl
