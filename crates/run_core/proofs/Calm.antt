-- What a runner is_known of its core without being told of the world.
use Rattle.std.proofs.Common.{◌≡◌, ◌≢◌, ℕ, ◌==◌, ◌&&◌, not, true, false, cond, refl, sym, ap, ◌∙◌, subst, arith, inl, inr}
use Rattle.std.proofs.lemmas.Bool.{cases_Bool, cases_eq, and_parts, or_cases, eqb-true, eq-eqb, ne_eqb, false≢true, true≢false, false_from_ne_true}
use Rattle.run_core.specs.declared.states.Mode.{Mode}
use Rattle.run_core.specs.declared.states.State.{State}
use Rattle.run_core.specs.declared.states.State.TheVariants.{Waiting, Missed, Running, Passed, Ended, Left}
use Rattle.run_core.specs.declared.states.Next.TheVariants.{Lookup}
use Rattle.run_core.specs.Greedy.{Rules, serves, AreLower}
use Rattle.run_core.specs.Machine.{States, leads, is_well, is_known, runs, put, after_end, is_waiting, IsCalm}
use Rattle.run_core.proofs.Any.{any_gives, all_true}
use Rattle.run_core.proofs.Steps.{waiting-is}
use Rattle.run_core.proofs.NextMeans.{Means}
use Rattle.run_core.proofs.Above.{leads-lower, above-deps}

pub well-known : (mode : Mode) (s : State) → is_well mode s ≡ true → is_known s ≡ true
well-known mode Waiting h = absurd (false≢true h)
well-known mode Missed h = absurd (false≢true h)
well-known mode Running h = absurd (false≢true h)
well-known mode Passed h = refl
well-known mode (Ended s) h = refl
well-known mode Left h = absurd (false≢true h)

module _ (g : Rules) (st : States) (low : AreLower g) where
  pub apart : (u t : ℕ) → leads g u u t ≡ true → u ≢ t
  apart u t h e = let k = leads-lower g low u u t h in omega (arith, k, e)

  -- a task over one that is not well is not known
  pub over-unknown : IsCalm g st → (t u : ℕ) → is_well g.mode (st t) ≡ false → leads g u u t ≡ true → is_known (st u) ≡ false
  over-unknown calm t u bad h = false_from_ne_true _ (λ k. true≢false (sym (calm u t h k) ∙ bad))

  -- one that was not well gets another state
  calm-put : IsCalm g st → (t : ℕ) (s : State) → is_well g.mode (st t) ≡ false → ((a : ℕ) → leads g t t a ≡ true → is_well g.mode (st a) ≡ true) → IsCalm g (put st t s)
  calm-put calm t s bad here u a h known =
      elim (cases_eq a t) [
        | inl e ↦
            let over : leads g u u t ≡ true = ap (leads g u u) (sym e) ∙ h in
            let k : is_known (st u) ≡ true = ap is_known (sym (there u (apart u t over))) ∙ known in
            absurd (true≢false (sym k ∙ over-unknown calm t u bad over))
        | inr d ↦ ap (is_well g.mode) (there a d) ∙ (elim (cases_eq u t) [
          | inl e ↦ here a (subst (λ v. leads g v v a ≡ true) e h)
          | inr f ↦ calm u a h (ap is_known (sym (there u f)) ∙ known)
        ])
      ]
    where
      there : (u : ℕ) → u ≢ t → put st t s u ≡ st u
      there u d = rw (ne_eqb u t d) refl

  pub calm-look : IsCalm g st → (t : ℕ) (s : State) → Means g st (Lookup t) → IsCalm g (put st t s)
  calm-look calm t s m =
      let p = and_parts (is_waiting (st t)) _ m.2 in
      calm-put calm t s (ap (is_well g.mode) (waiting-is (st t) p.0))
      (λ a h. any_gives (λ d. is_well g.mode (st d) ≡ true) _ (is_well g.mode (st a) ≡ true)
      (λ d well v. elim (or_cases (d == a) (leads g d d a) v) [
        | inl e ↦ subst (λ x. is_well g.mode (st x) ≡ true) (eqb-true d a e) well
        | inr u ↦ calm d a u (well-known g.mode (st d) well)
      ])
      (g.deps t) (all_true _ (g.deps t) p.1) (sym (above-deps g low t a) ∙ h))

  pub calm-start : IsCalm g st → (t : ℕ) → st t ≡ Missed → IsCalm g (put st t Running)
  calm-start calm t is = calm-put calm t Running (ap (is_well g.mode) is) (λ a h. calm t a h (ap is_known is))

  -- what a failure leaves was not known
  pub faded : IsCalm g st → (t x u : ℕ) → st t ≡ Running → (not (serves g.mode x) && leads g u u t) ≡ true → (u ≢ t) × (is_known (st u) ≡ false)
  faded calm t x u is h =
      let l = (and_parts (not (serves g.mode x)) (leads g u u t) h).1 in
      (apart u t l, over-unknown calm t u (ap (is_well g.mode) is) l)

  pub calm-end : IsCalm g st → (t x : ℕ) → st t ≡ Running → IsCalm g (after_end g st t x)
  calm-end calm t x is u a h known =
      let ended = calm-put calm t (Ended x) (ap (is_well g.mode) is) (λ a l. calm t a l (ap is_known is)) in
      elim (cases_Bool (not (serves g.mode x) && leads g u u t)) [
        | inl f ↦ absurd (false≢true (rw f at known))
        | inr f ↦
            let well = ended u a h (rw f at known) in
            elim (cases_Bool (not (serves g.mode x) && leads g a a t)) [
              | inl q ↦
                  let w = faded calm t x a is q in
                  let same : put st t (Ended x) a ≡ st a = rw (ne_eqb a t w.0) refl in
                  absurd (true≢false (sym (well-known g.mode (st a) (ap (is_well g.mode) (sym same) ∙ well)) ∙ w.1))
              | inr q ↦ rw q well
            ]
      ]

  unknown-quiet : (s : State) → is_known s ≡ false → runs s ≡ false
  unknown-quiet Waiting h = refl
  unknown-quiet Missed h = refl
  unknown-quiet Running h = absurd (true≢false h)
  unknown-quiet Passed h = refl
  unknown-quiet (Ended s) h = refl
  unknown-quiet Left h = refl

  -- an end takes away one that runs, and no other
  pub runs-end : IsCalm g st → (t x : ℕ) → st t ≡ Running → (u : ℕ) → runs (after_end g st t x u) ≡ cond (u == t) false (runs (st u))
  runs-end calm t x is u =
      elim (cases_Bool (not (serves g.mode x) && leads g u u t)) [
        | inl f ↦ let w = faded calm t x u is f in rw (f, ne_eqb u t w.0) (sym (unknown-quiet (st u) w.1))
        | inr f ↦ rw f (elim (cases_eq u t) [ inl e ↦ rw (eq-eqb u t e) refl | inr d ↦ rw (ne_eqb u t d) refl ])
      ]
