-- At the end of a run that no failure stopped, a task is reported, or an ancestor has an end that doesn't serve it.
use Rattle.std.proofs.Common.{◌≡◌, ℕ, zero, suc, ◌<◌, ◌==◌, ◌||◌, ◌⊎◌, Bool, true, false, List, [], ◌∷◌, refl, sym, ap, ◌∙◌, arith, inl, inr}
use Rattle.std.specs.List.{list_any, list_all, AllByRecursion}
use Rattle.std.proofs.lemmas.Bool.{cases_Bool, and_from, or_left, or_right, true≢false, lt-ltb, eq-eqb}
use Rattle.run_core.specs.declared.states.Step.{Step}
use Rattle.run_core.specs.Greedy.{Tasks, AreLower, serves, is_end, started, ended, is_stopped, is_settled, count_below, is_running, is_due, has_room, is_reported}
use Rattle.run_core.specs.Machine.{is_above}
use Rattle.run_core.proofs.Any.{all_weaker}
use Rattle.run_core.proofs.Above.{above-deps}
use Rattle.run_core.proofs.Steps.{has_end, end-status, end-passes, settled-run, settled-other, calm-live, parts-due}
use Rattle.schedule_laws.proofs.Finished.{Finished, ends-started}

-- an end that doesn't serve the tasks above
pub record BadEnd (g : Tasks) (steps : List Step) : Type 0 where
  pub place : ℕ
  pub status : ℕ
  pub end : has_end steps place status ≡ true
  pub bad : serves g.rules.mode status ≡ false

-- at the task or above it
abbrev is_at_or_above : Tasks → ℕ → ℕ → Bool
is_at_or_above g t a = (t == a) || is_above g.rules t a

-- a task is settled, or an end at it or above it doesn't serve
abbrev SettledOr : Tasks → List Step → ℕ → Type 0
SettledOr g steps t = (is_settled g steps t ≡ true) ⊎ ((b : BadEnd g steps) × (is_at_or_above g t b.place ≡ true))

-- a run to its end
pub record Goes (g : Tasks) (steps : List Step) : Type 0 where
  pub run : Finished g steps
  pub wide : zero < g.rules.width
  pub lower : AreLower g.rules
  pub calm : is_stopped g.rules.mode steps ≡ false

count-none : (p : ℕ → Bool) (n : ℕ) → ((u : ℕ) → u < n → p u ≡ false) → count_below p n ≡ 0
count-none p zero none = refl
count-none p (suc n) none = rw (none n (omega arith)) (count-none p n (λ u l. none u (omega arith)))

module _ (g : Tasks) (steps : List Step) (goes : Goes g steps) where
  has-room : has_room g steps ≡ true
  has-room = lt-ltb _ g.rules.width (rw (count-none (is_running steps) g.rules.size (λ u l. (goes.run.over u l).0)) goes.wide)

  -- one whose dependencies are settled was started, and so it has ended
  ended-due : (t : ℕ) → t < g.rules.size → g.to_run t ≡ true → list_all (is_settled g steps) (g.rules.deps t) ≡ true → ended steps t ≡ true
  ended-due t i r deps =
      ends-started g steps goes.run t ∙ (elim (cases_Bool (started steps t)) [
        | inl s ↦ s
        | inr f ↦
            let due = parts-due g steps t (record { run = r; fresh = f; calm = goes.calm; deps = deps }) in
            absurd (true≢false (sym (and_from (is_due g steps t) _ due has-room) ∙ (goes.run.over t i).1))
      ])

  -- the dependencies of a task, one after another
  all-or_bad : (ds : List ℕ) → AllByRecursion (SettledOr g steps) ds
      → (list_all (is_settled g steps) ds ≡ true) ⊎ ((b : BadEnd g steps) × (list_any (λ d. is_at_or_above g d b.place) ds ≡ true))
  all-or_bad [] each = inl refl
  all-or_bad (d ∷ ds) each =
      elim each.0 [
        | inr w ↦ inr (w.0, or_left (is_at_or_above g d w.0.place) _ w.1)
        | inl here ↦ elim (all-or_bad ds each.1) [
          | inr w ↦ inr (w.0, or_right (is_at_or_above g d w.0.place) _ w.1)
          | inl rest ↦ inl (and_from (is_settled g steps d) _ here rest)
        ]
      ]

  deps-or_bad : (t : ℕ) → AllByRecursion (SettledOr g steps) (g.rules.deps t)
      → (list_all (is_settled g steps) (g.rules.deps t) ≡ true) ⊎ ((b : BadEnd g steps) × (is_above g.rules t b.place ≡ true))
  deps-or_bad t each =
      elim (all-or_bad (g.rules.deps t) each) [
        | inl deps ↦ inl deps
        | inr w ↦ inr (w.0, above-deps g.rules goes.lower t w.0.place ∙ w.1)
      ]

  run-or_bad : (t : ℕ) → t < g.rules.size → g.to_run t ≡ true → list_all (is_settled g steps) (g.rules.deps t) ≡ true → SettledOr g steps t
  run-or_bad t i r deps =
      let w = end-status (λ y. true) t steps (ended-due t i r deps) in
      elim (cases_Bool (serves g.rules.mode w.0)) [
        | inl s ↦ inl (settled-run g steps t r
            ∙ ap (list_any (is_end (serves g.rules.mode) t)) (calm-live g.rules.mode steps goes.calm)
            ∙ end-passes (serves g.rules.mode) t w.0 s steps w.2)
        | inr f ↦ inr (record { place = t; status = w.0; end = w.2; bad = f }, or_left (t == t) _ (eq-eqb t t refl))
      ]

  settled-or_bad : (n t : ℕ) → t < n → t < g.rules.size → SettledOr g steps t
  settled-or_bad zero t l i = absurd (omega arith)
  settled-or_bad (suc n) t l i =
      elim (deps-or_bad t (all_weaker (λ d. d < t) (SettledOr g steps) (λ d k. settled-or_bad n d (omega arith) (omega arith)) (g.rules.deps t) (goes.lower t))) [
        | inr w ↦ inr (w.0, or_right (t == w.0.place) _ w.1)
        | inl deps ↦ elim (cases_Bool (g.to_run t)) [
          | inl r ↦ run-or_bad t i r deps
          | inr o ↦ inl (settled-other g steps goes.lower t o ∙ deps)
        ]
      ]

  pub reported-or_bad : (t : ℕ) → t < g.rules.size → (is_reported g steps t ≡ true) ⊎ ((b : BadEnd g steps) × (is_above g.rules t b.place ≡ true))
  reported-or_bad t i =
      elim (deps-or_bad t (all_weaker (λ d. d < t) (SettledOr g steps) (λ d k. settled-or_bad t d k (omega arith)) (g.rules.deps t) (goes.lower t))) [
        | inr w ↦ inr w
        | inl deps ↦ inl (elim (cases_Bool (g.to_run t)) [
          | inl r ↦ rw r (ended-due t i r deps)
          | inr o ↦ rw o (settled-other g steps goes.lower t o ∙ deps)
        ])
      ]
