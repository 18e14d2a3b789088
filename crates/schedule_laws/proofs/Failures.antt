-- Failing ends in a list of steps, and the first of them.
use Rattle.std.proofs.Common.{◌≡◌, ◌≢◌, ℕ, ◌==◌, ◌&&◌, not, true, false, List, [], ◌∷◌, refl, sym, ap, ◌∙◌, subst, inl, inr}
use Rattle.std.specs.List.{list_any}
use Rattle.std.proofs.lemmas.Bool.{cases_Bool, or_cases, or_left, and_parts, false≢true, true≢false, false_from_ne_true, eqb-true, eq-eqb}
use Rattle.std.proofs.lemmas.List.Folds.{list_any-append}
use Rattle.run_core.specs.declared.states.Step.{Step}
use Rattle.run_core.specs.declared.states.Step.TheVariants.{Start, End}
use Rattle.run_core.specs.Greedy.{is_start, is_end, is_failure, started, before_failure}
use Rattle.run_core.proofs.Any.{any_mono}
use Rattle.run_core.proofs.Steps.{has_end}
use Rattle.schedule_laws.specs.Reported.{FailsAt}

-- one step more in front
abbrev behind : (x : Step) (steps : List Step) → FailsAt steps → FailsAt (x ∷ steps)
behind x steps f = record { before = x ∷ f.before; place = f.place; status = f.status; after = f.after; is = ap (λ xs. x ∷ xs) f.is; failed = f.failed }

pub record FailsOf (steps : List Step) (t : ℕ) : Type 0 where
  pub failure : FailsAt steps
  pub place : failure.place ≡ t

pub fails-at : (steps : List Step) (t s : ℕ) → has_end steps t s ≡ true → s ≢ 0 → FailsOf steps t
fails-at [] t s h bad = absurd (false≢true h)
fails-at (Start u ∷ steps) t s h bad = let w = fails-at steps t s h bad in record { failure = behind (Start u) steps w.failure; place = w.place }
fails-at (End u x ∷ steps) t s h bad =
    elim (or_cases ((u == t) && (x == s)) (has_end steps t s) h) [
      | inl k ↦
          let p = and_parts (u == t) (x == s) k in
          record {
            failure = record { before = []; place = u; status = x; after = steps; is = refl; failed = subst (λ y. y ≢ 0) (sym (eqb-true x s p.1)) bad };
            place = eqb-true u t p.0;
          }
      | inr k ↦ let w = fails-at steps t s k bad in record { failure = behind (End u x) steps w.failure; place = w.place }
    ]

pub record First (steps : List Step) : Type 0 where
  pub failure : FailsAt steps
  pub before : before_failure steps ≡ failure.before
  pub calm : list_any is_failure failure.before ≡ false

pub first-failure : (steps : List Step) → list_any is_failure steps ≡ true → First steps
first-failure [] h = absurd (false≢true h)
first-failure (Start u ∷ steps) h =
    let w = first-failure steps h in
    record { failure = behind (Start u) steps w.failure; before = ap (λ xs. Start u ∷ xs) w.before; calm = w.calm }
first-failure (End u x ∷ steps) h =
    elim (cases_Bool (not (x == 0))) [
      | inl k ↦ record {
        failure = record { before = []; place = u; status = x; after = steps; is = refl; failed = λ e. false≢true (sym (ap not (eq-eqb x 0 e)) ∙ k) };
        before = rw k refl;
        calm = refl;
      }
      | inr k ↦
          let w = first-failure steps (rw k at h) in
          record { failure = behind (End u x) steps w.failure; before = rw k (ap (λ xs. End u x ∷ xs) w.before); calm = rw k w.calm }
    ]

-- an end with a status other than 0 is a failure
pub end-fails : (t s : ℕ) → not (s == 0) ≡ true → (steps : List Step) → has_end steps t s ≡ true → list_any is_failure steps ≡ true
end-fails t s h steps = any_mono _ _ (λ x. one x) steps
  where
    one : (x : Step) → is_end (λ y. y == s) t x ≡ true → is_failure x ≡ true
    one (Start u) k = absurd (false≢true k)
    one (End u y) k = rw (eqb-true y s (and_parts (u == t) (y == s) k).1) h

-- what was not started at the end was not started before the failure
pub unstarted-before : (steps : List Step) (f : FailsAt steps) (t : ℕ) → started steps t ≡ false → started f.before t ≡ false
unstarted-before steps f t h =
    false_from_ne_true (started f.before t) (λ k.
    true≢false (sym (ap (λ xs. started xs t) f.is ∙ list_any-append (is_start t) f.before (End f.place f.status ∷ f.after) ∙ or_left (started f.before t) _ k) ∙ h))
