-- What is reported in a mode that does not stop.
use Rattle.run_core.specs.declared.states.Step.{Step}
use Rattle.std.proofs.Common.{lt_trans, ◌≡◌, ℕ, zero, suc, ◌<◌, ◌==◌, Bool, true, false, cond, not, ◌&&◌, List, [], ◌∷◌, ◌++◌, refl, sym, ap, ◌∙◌, subst, arith, inl, inr, append-nil, append_assoc}
use Rattle.std.specs.List.{list_all}
use Rattle.std.proofs.lemmas.Bool.{cases_Bool, or_cases, and_parts, and_from, and_left, false≢true, true≢false, eqb-true, lt-ltb}
use Rattle.run_core.specs.Greedy.{Tasks, stops, serves, is_start, is_end, started, ended, is_settled, count_below, is_running, is_due, has_room, is_startable, IsOver, IsGreedyAfter, IsGreedy, AreLower}
use Rattle.run_core.specs.declared.states.Step.TheVariants.{Start, End}
use Rattle.run_core.specs.Greedy.{is_reported, HaveStatus}
use Rattle.run_core.proofs.Any.{any-push_left, any-push_none, any-push, all_agree, bool_same}
use Rattle.run_core.proofs.Steps.{settled-run, settled-other, all_settled-push, end-status, end-passes, calm-live, due-parts, parts-due}

-- what serves the tasks above, by the statuses alone
serving : Tasks → (ℕ → ℕ) → ℕ → ℕ → Bool
serving g status zero t = false
serving g status (suc n) t = list_all (serving g status n) (g.rules.deps t) && cond (g.to_run t) (serves g.rules.mode (status t)) true

-- what stands in the steps so far
record Sound (g : Tasks) (steps : List Step) : Type 0 where
  starts : (t : ℕ) → started steps t ≡ true → (g.to_run t ≡ true) × (list_all (is_settled g steps) (g.rules.deps t) ≡ true)
  ends : (t : ℕ) → ended steps t ≡ true → started steps t ≡ true

sound-start : (g : Tasks) (steps : List Step) (t : ℕ) → Sound g steps → is_startable g steps t ≡ true → Sound g (steps ++ Start t ∷ [])
sound-start g steps t sound able =
    let d = due-parts g steps t (and_parts (is_due g steps t) _ able).0 in
    record {
      starts = λ u h. elim (or_cases (started steps u) (t == u) (sym (any-push (is_start u) steps (Start t)) ∙ h)) [
        | inl k ↦ let p = sound.starts u k in (p.0, all_settled-push g steps (Start t) (g.rules.deps u) p.1)
        | inr k ↦ let e : t ≡ u = eqb-true t u k in subst (λ v. (g.to_run v ≡ true) × (list_all (is_settled g (steps ++ Start t ∷ [])) (g.rules.deps v) ≡ true)) e (d.run, all_settled-push g steps (Start t) (g.rules.deps t) d.deps)
      ];
      ends = λ u h. any-push_left (is_start u) steps (Start t) (sound.ends u (sym (any-push_none (is_end (λ y. true) u) steps (Start t) refl) ∙ h));
    }

sound-end : (g : Tasks) (steps : List Step) (t s : ℕ) → Sound g steps → is_running steps t ≡ true → Sound g (steps ++ End t s ∷ [])
sound-end g steps t s sound runs = record {
  starts = λ u h. let p = sound.starts u (sym (any-push_none (is_start u) steps (End t s) refl) ∙ h) in (p.0, all_settled-push g steps (End t s) (g.rules.deps u) p.1);
  ends = λ u h. any-push_left (is_start u) steps (End t s) (elim (or_cases (ended steps u) ((t == u) && true) (sym (any-push (is_end (λ y. true) u) steps (End t s)) ∙ h)) [
    | inl k ↦ sound.ends u k
    | inr k ↦ let e : t ≡ u = eqb-true t u (and_parts (t == u) true k).0 in subst (λ v. started steps v ≡ true) e (and_parts (started steps t) _ runs).0
  ]);
}

-- a whole run is sound and over
ends-sound : (g : Tasks) (before rest : List Step) → Sound g before → IsGreedyAfter g before rest → (steps : List Step) × (steps ≡ before ++ rest) × Sound g steps × IsOver g steps
ends-sound g before [] sound over = (before, sym (append-nil before), sound, over)
ends-sound g before (Start t ∷ rest) sound greedy =
    let w = ends-sound g (before ++ Start t ∷ []) rest (sound-start g before t sound greedy.0.1) greedy.1 in (w.0, w.1 ∙ append_assoc before (Start t ∷ []) rest, w.2, w.3)
ends-sound g before (End t s ∷ rest) sound greedy =
    let w = ends-sound g (before ++ End t s ∷ []) rest (sound-end g before t s sound greedy.0.1) greedy.1 in (w.0, w.1 ∙ append_assoc before (End t s ∷ []) rest, w.2, w.3)

record Whole (g : Tasks) (steps : List Step) : Type 0 where
  sound : Sound g steps
  over : IsOver g steps

whole : (g : Tasks) (steps : List Step) → IsGreedy g steps → Whole g steps
whole g steps greedy =
    let w = ends-sound g [] steps (record { starts = λ t h. absurd (false≢true h); ends = λ t h. absurd (false≢true h) }) greedy in
    subst (Whole g) w.1 (record { sound = w.2; over = w.3 })

count-zero : (p : ℕ → Bool) (n : ℕ) → ((u : ℕ) → u < n → p u ≡ false) → count_below p n ≡ 0
count-zero p zero none = refl
count-zero p (suc n) none = rw (none n (omega arith)) (count-zero p n (λ u l. none u (omega arith)))

-- at the end, a task to run has ended where its dependencies are settled
ended-is : (g : Tasks) (steps : List Step) → Whole g steps → stops g.rules.mode ≡ false → zero < g.rules.width → (t : ℕ) → t < g.rules.size → g.to_run t ≡ true → ended steps t ≡ list_all (is_settled g steps) (g.rules.deps t)
ended-is g steps w going wide t i run =
    bool_same (ended steps t) _
    (λ h. (w.sound.starts t (w.sound.ends t h)).1)
    (λ h. elim (cases_Bool (started steps t)) [
      | inl s ↦ not-not (ended steps t) (sym (ap (λ b. b && not (ended steps t)) s) ∙ (w.over t i).0)
      | inr f ↦
          let due = parts-due g steps t (record { run = run; fresh = f; calm = and_left (stops g.rules.mode) _ going; deps = h }) in
          let free : has_room g steps ≡ true = lt-ltb _ g.rules.width (rw (count-zero (is_running steps) g.rules.size (λ u l. (w.over u l).0)) wide) in
          absurd (true≢false (sym (and_from (is_due g steps t) _ due free) ∙ (w.over t i).1))
    ])
  where
    not-not : (b : Bool) → not b ≡ false → b ≡ true
    not-not true h = refl
    not-not false h = absurd (true≢false h)

-- and it is settled where its status serves besides
settled-is : (g : Tasks) (status : ℕ → ℕ) (steps : List Step) → Whole g steps → stops g.rules.mode ≡ false → zero < g.rules.width → AreLower g.rules → HaveStatus steps status → (n t : ℕ) → t < n → t < g.rules.size → is_settled g steps t ≡ serving g status n t
unfolding serving
settled-is g status steps w going wide low have zero t l i = absurd (omega arith)
settled-is g status steps w going wide low have (suc n) t l i =
    let deps : list_all (is_settled g steps) (g.rules.deps t) ≡ list_all (serving g status n) (g.rules.deps t) =
    all_agree (λ d. d < t) _ _ (λ d k. settled-is g status steps w going wide low have n d (omega arith) (omega arith)) (g.rules.deps t) (low t) in
    elim (cases_Bool (g.to_run t)) [
      | inr o ↦ rw o (settled-other g steps low t o ∙ deps ∙ sym (and-true _))
      | inl r ↦ rw r (bool_same (is_settled g steps t) _
          (λ h.
          let e = end-status (serves g.rules.mode) t steps (rw (settled-run g steps t r, calm-live g.rules.mode steps (and_left (stops g.rules.mode) _ going)) at h) in
          and_from _ (serves g.rules.mode (status t)) (sym deps ∙ sym (ended-is g steps w going wide t i r) ∙ end-passes (λ y. true) t e.0 refl steps e.2) (ap (serves g.rules.mode) (sym (have t e.0 e.2)) ∙ e.1))
          (λ h.
          let p = and_parts (list_all (serving g status n) (g.rules.deps t)) (serves g.rules.mode (status t)) h in
          let e = end-status (λ y. true) t steps (ended-is g steps w going wide t i r ∙ deps ∙ p.0) in
          rw (settled-run g steps t r, calm-live g.rules.mode steps (and_left (stops g.rules.mode) _ going)) (end-passes (serves g.rules.mode) t e.0 (ap (serves g.rules.mode) (have t e.0 e.2) ∙ p.1) steps e.2)))
    ]
  where
    and-true : (b : Bool) → (b && true) ≡ b
    and-true true = refl
    and-true false = refl

reported-is : (g : Tasks) (status : ℕ → ℕ) (steps : List Step) → stops g.rules.mode ≡ false → zero < g.rules.width → AreLower g.rules → IsGreedy g steps → HaveStatus steps status → (t : ℕ) → t < g.rules.size
    → is_reported g steps t ≡ cond (g.to_run t) (list_all (serving g status t) (g.rules.deps t)) (serving g status (suc t) t)
reported-is g status steps going wide low greedy have t i =
    let w = whole g steps greedy in
    elim (cases_Bool (g.to_run t)) [
      | inl r ↦ rw r (ended-is g steps w going wide t i r ∙ all_agree (λ d. d < t) _ _ (λ d k. settled-is g status steps w going wide low have t d k (lt_trans k i)) (g.rules.deps t) (low t))
      | inr o ↦ rw o (settled-is g status steps w going wide low have (suc t) t (omega arith) i)
    ]

pub reported_law_lem : (g : Tasks) (status : ℕ → ℕ) (one other : List Step) → stops g.rules.mode ≡ false → zero < g.rules.width → AreLower g.rules → IsGreedy g one → IsGreedy g other → HaveStatus one status → HaveStatus other status
    → (t : ℕ) → t < g.rules.size → is_reported g one t ≡ is_reported g other t
reported_law_lem g status one other going wide low a b ha hb t i =
    reported-is g status one going wide low a ha t i ∙ sym (reported-is g status other going wide low b hb t i)
