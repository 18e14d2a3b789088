-- What stands in the steps of a run, and what holds at its end.
use Rattle.std.proofs.Common.{◌≡◌, ◌≢◌, ℕ, ◌<◌, ◌==◌, ◌&&◌, not, true, List, [], ◌∷◌, ◌++◌, refl, sym, ap, ◌∙◌, subst, arith, inl, inr, append-nil, append_assoc}
use Rattle.std.specs.List.{AllPairs}
use Rattle.std.proofs.lemmas.Bool.{cases_Bool, or_cases, and_parts, and_from, false≢true, true≢false, false_from_ne_true, not-true, eqb-true}
use Rattle.run_core.specs.declared.states.Step.{Step}
use Rattle.run_core.specs.declared.states.Step.TheVariants.{Start, End}
use Rattle.run_core.specs.Greedy.{Tasks, is_start, is_end, started, ended, is_running, is_due, is_startable, is_reported, IsOver, IsGreedyAfter, IsGreedy}
use Rattle.run_core.proofs.Any.{any-push, any-push_left, any-push_none, bool_same}
use Rattle.run_core.proofs.Steps.{due-parts}
use Rattle.schedule_laws.specs.Starts.{starts_of, ends_of}
use Rattle.schedule_laws.proofs.Listed.{started-listed, ended-listed, starts-start, starts-end, ends-start, ends-end, push-apart}

-- steps so far
pub record Sound (g : Tasks) (steps : List Step) : Type 0 where
  pub starts : (t : ℕ) → started steps t ≡ true → (t < g.rules.size) × (g.to_run t ≡ true)
  pub ends : (t : ℕ) → ended steps t ≡ true → started steps t ≡ true
  pub once : AllPairs (λ a b. a ≢ b) (starts_of steps)
  pub ends_once : AllPairs (λ a b. a ≢ b) (ends_of steps)

sound-start : (g : Tasks) (steps : List Step) (t : ℕ) → Sound g steps → t < g.rules.size → is_startable g steps t ≡ true → Sound g (steps ++ Start t ∷ [])
sound-start g steps t sound i able =
    let d = due-parts g steps t (and_parts (is_due g steps t) _ able).0 in
    record {
      starts = λ u h. elim (or_cases (started steps u) (t == u) (sym (any-push (is_start u) steps (Start t)) ∙ h)) [
        | inl k ↦ sound.starts u k
        | inr k ↦ subst (λ v. (v < g.rules.size) × (g.to_run v ≡ true)) (eqb-true t u k) (i, d.run)
      ];
      ends = λ u h. any-push_left (is_start u) steps (Start t) (sound.ends u (sym (any-push_none (is_end (λ y. true) u) steps (Start t) refl) ∙ h));
      once = subst (AllPairs (λ a b. a ≢ b)) (sym (starts-start steps t)) (push-apart (starts_of steps) t sound.once (λ c. false≢true (sym d.fresh ∙ started-listed steps t c)));
      ends_once = subst (AllPairs (λ a b. a ≢ b)) (sym (ends-start steps t)) sound.ends_once;
    }

sound-end : (g : Tasks) (steps : List Step) (t s : ℕ) → Sound g steps → is_running steps t ≡ true → Sound g (steps ++ End t s ∷ [])
sound-end g steps t s sound runs =
    let p = and_parts (started steps t) (not (ended steps t)) runs in
    record {
      starts = λ u h. sound.starts u (sym (any-push_none (is_start u) steps (End t s) refl) ∙ h);
      ends = λ u h. any-push_left (is_start u) steps (End t s) (elim (or_cases (ended steps u) ((t == u) && true) (sym (any-push (is_end (λ y. true) u) steps (End t s)) ∙ h)) [
        | inl k ↦ sound.ends u k
        | inr k ↦ subst (λ v. started steps v ≡ true) (eqb-true t u (and_parts (t == u) true k).0) p.0
      ]);
      once = subst (AllPairs (λ a b. a ≢ b)) (sym (starts-end steps t s)) sound.once;
      ends_once = subst (AllPairs (λ a b. a ≢ b)) (sym (ends-end steps t s)) (push-apart (ends_of steps) t sound.ends_once (λ c. false≢true (sym (not-true (ended steps t) p.1) ∙ ended-listed steps t c)));
    }

-- a whole run
pub record Finished (g : Tasks) (steps : List Step) : Type 0 where
  pub sound : Sound g steps
  pub over : IsOver g steps

finished-from : (g : Tasks) (before rest : List Step) → Sound g before → IsGreedyAfter g before rest → Finished g (before ++ rest)
finished-from g before [] sound over = rw append-nil (record { sound = sound; over = over })
finished-from g before (Start t ∷ rest) sound greedy =
    rw (← append_assoc before (Start t ∷ []) rest) (finished-from g (before ++ Start t ∷ []) rest (sound-start g before t sound greedy.0.0 greedy.0.1) greedy.1)
finished-from g before (End t s ∷ rest) sound greedy =
    rw (← append_assoc before (End t s ∷ []) rest) (finished-from g (before ++ End t s ∷ []) rest (sound-end g before t s sound greedy.0.1) greedy.1)

none-sound : (g : Tasks) → Sound g []
none-sound g = record {
  starts = λ t h. absurd (false≢true h);
  ends = λ t h. absurd (false≢true h);
  once = λ i j d less inside. absurd (omega arith);
  ends_once = λ i j d less inside. absurd (omega arith);
}

pub finished : (g : Tasks) (steps : List Step) → IsGreedy g steps → Finished g steps
finished g steps greedy = finished-from g [] steps (none-sound g) greedy

-- at the end the started are the ended
pub ends-started : (g : Tasks) (steps : List Step) → Finished g steps → (t : ℕ) → ended steps t ≡ started steps t
ends-started g steps run t =
    bool_same (ended steps t) (started steps t) (run.sound.ends t)
    (λ s. elim (cases_Bool (ended steps t)) [
      | inl e ↦ e
      | inr f ↦ absurd (true≢false (sym (and_from (started steps t) (not (ended steps t)) s (ap not f)) ∙ (run.over t (run.sound.starts t s).0).0))
    ])

pub started-reported : (g : Tasks) (steps : List Step) → Finished g steps → (t : ℕ) → started steps t ≡ (g.to_run t && is_reported g steps t)
started-reported g steps run t =
    elim (cases_Bool (g.to_run t)) [
      | inl r ↦ rw r (sym (ends-started g steps run t))
      | inr o ↦ rw o (false_from_ne_true (started steps t) (λ s. true≢false (sym (run.sound.starts t s).1 ∙ o)))
    ]
