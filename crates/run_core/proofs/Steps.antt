-- The core's steps are greedy.
use Rattle.run_core.specs.declared.states.Mode.{Mode}
use Rattle.run_core.specs.declared.states.Step.{Step}
use Rattle.run_core.specs.declared.states.State.{State}
use Rattle.run_core.specs.Moves.{Lead}
use Rattle.std.proofs.Common.{append-nil, append_assoc, lt_trans, ◌≡◌, ℕ, zero, suc, ◌<◌, ◌==◌, Bool, true, false, cond, not, ◌&&◌, ◌||◌, nat_lt, List, [], ◌∷◌, ◌++◌, refl, sym, ap, ◌∙◌, subst, arith, inl, inr}
use mathlib.Core.Path.{fun_ext}
use Rattle.std.specs.List.{list_any, list_all}
use Rattle.std.proofs.lemmas.Bool.{cases_Bool, or_cases, or_left, or_right, and_parts, and_from, and_left, false≢true, true≢false, eqb-true, eq-eqb, ne_eqb, false_from_ne_true}
use Rattle.run_core.specs.Greedy.{Tasks, stops, serves, is_start, is_end, is_failure, started, ended, before_failure, live, is_stopped, settled, is_settled, count_below, is_running, is_due, has_room, is_startable, IsNextStep, IsGreedyAfter, IsGreedy, AreLower}
use Rattle.run_core.specs.declared.states.Mode.TheVariants.{Never, DependenciesSuccessful, Always}
use Rattle.run_core.specs.declared.states.Step.TheVariants.{Start, End}
use Rattle.run_core.specs.Machine.{States, is_waiting, is_missed, is_known, runs, is_well, has_failed, has_stopped, some_below, leads, put, after_end}
use Rattle.run_core.specs.Moves.{Move, IsRun, steps_of}
use Rattle.run_core.specs.declared.states.State.TheVariants.{Waiting, Missed, Running, Passed, Ended, Left}
use Rattle.run_core.specs.declared.states.Next.TheVariants.{Lookup, Start as Begin}
use Rattle.run_core.specs.Moves.Move.{Finds, Misses, Starts, Ends}
use Rattle.run_core.proofs.Any.{all_weaker, all_both, any_gives, any_mono, any-push_left, any-push_right, any-push_none, any-push, all_true, true_all, all_agree, bool_same}
use Rattle.run_core.proofs.Above.{leads-lower}
use Rattle.run_core.proofs.NextMeans.{NoneBelow, NoneReady, IsBlocked, Means, room, next-means, count-some, some-count}

-- ---- what is settled

pub settled-enough : (g : Tasks) (steps : List Step) → AreLower g.rules → (n m t : ℕ) → t < n → t < m → settled g steps n t ≡ settled g steps m t
settled-enough g steps low zero m t ln lm = absurd (omega arith)
settled-enough g steps low (suc n) zero t ln lm = absurd (omega arith)
settled-enough g steps low (suc n) (suc m) t ln lm =
    ap (cond (g.to_run t) (list_any (is_end (serves g.rules.mode) t) (live g.rules.mode steps)))
    (all_agree (λ d. d < t) _ _ (λ d l. settled-enough g steps low n m d (omega arith) (omega arith)) (g.rules.deps t) (low t))

pub settled-run : (g : Tasks) (steps : List Step) (t : ℕ) → g.to_run t ≡ true → is_settled g steps t ≡ list_any (is_end (serves g.rules.mode) t) (live g.rules.mode steps)
unfolding is_settled
settled-run g steps t r = rw r refl

pub settled-other : (g : Tasks) (steps : List Step) → AreLower g.rules → (t : ℕ) → g.to_run t ≡ false → is_settled g steps t ≡ list_all (is_settled g steps) (g.rules.deps t)
unfolding is_settled
settled-other g steps low t r =
    rw r (all_agree (λ d. d < t) _ _ (λ d l. settled-enough g steps low t (suc d) d l (omega arith)) (g.rules.deps t) (low t))

any-before : (p : Step → Bool) (steps : List Step) → list_any p (before_failure steps) ≡ true → list_any p steps ≡ true
any-before p [] h = h
any-before p (s ∷ steps) h =
    elim (is_failure s) as (λ b. list_any p (cond b [] (s ∷ before_failure steps)) ≡ true → list_any p (s ∷ steps) ≡ true) [
      | true ↦ λ k. absurd (false≢true k)
      | false ↦ λ k. elim (or_cases (p s) (list_any p (before_failure steps)) k) [ inl u ↦ or_left (p s) (list_any p steps) u | inr u ↦ or_right (p s) (list_any p steps) (any-before p steps u) ]
    ] h

any-live : (mode : Mode) (p : Step → Bool) (steps : List Step) → list_any p (live mode steps) ≡ true → list_any p steps ≡ true
any-live Never p steps h = any-before p steps h
any-live DependenciesSuccessful p steps h = h
any-live Always p steps h = h

any-before_push : (p : Step → Bool) (steps : List Step) (x : Step) → list_any p (before_failure steps) ≡ true → list_any p (before_failure (steps ++ x ∷ [])) ≡ true
any-before_push p [] x h = absurd (false≢true h)
any-before_push p (s ∷ steps) x h =
    elim (is_failure s) as (λ b. list_any p (cond b [] (s ∷ before_failure steps)) ≡ true → list_any p (cond b [] (s ∷ before_failure (steps ++ x ∷ []))) ≡ true) [
      | true ↦ λ k. k
      | false ↦ λ k. elim (or_cases (p s) (list_any p (before_failure steps)) k) [ inl u ↦ or_left (p s) _ u | inr u ↦ or_right (p s) _ (any-before_push p steps x u) ]
    ] h

any-live_push : (mode : Mode) (p : Step → Bool) (steps : List Step) (x : Step) → list_any p (live mode steps) ≡ true → list_any p (live mode (steps ++ x ∷ [])) ≡ true
any-live_push Never p steps x h = any-before_push p steps x h
any-live_push DependenciesSuccessful p steps x h = any-push_left p steps x h
any-live_push Always p steps x h = any-push_left p steps x h

pub calm-before : (steps : List Step) → list_any is_failure steps ≡ false → before_failure steps ≡ steps
calm-before [] h = refl
calm-before (s ∷ steps) h =
    elim (is_failure s) as (λ b. (b || list_any is_failure steps) ≡ false → cond b [] (s ∷ before_failure steps) ≡ s ∷ steps) [
      | true ↦ λ k. absurd (true≢false k)
      | false ↦ λ k. ap (λ xs. s ∷ xs) (calm-before steps k)
    ] h

pub calm-live : (mode : Mode) (steps : List Step) → is_stopped mode steps ≡ false → live mode steps ≡ steps
calm-live Never steps h = calm-before steps h
calm-live DependenciesSuccessful steps h = refl
calm-live Always steps h = refl

settled-push : (g : Tasks) (steps : List Step) (x : Step) (n t : ℕ) → settled g steps n t ≡ true → settled g (steps ++ x ∷ []) n t ≡ true
settled-push g steps x zero t h = h
settled-push g steps x (suc n) t h =
    elim (g.to_run t) as (λ b. cond b (list_any (is_end (serves g.rules.mode) t) (live g.rules.mode steps)) (list_all (settled g steps n) (g.rules.deps t)) ≡ true
    → cond b (list_any (is_end (serves g.rules.mode) t) (live g.rules.mode (steps ++ x ∷ []))) (list_all (settled g (steps ++ x ∷ []) n) (g.rules.deps t)) ≡ true) [
      | true ↦ λ k. any-live_push g.rules.mode _ steps x k
      | false ↦ λ k. true_all _ (g.rules.deps t) (all_weaker _ _ (λ d. settled-push g steps x n d) (g.rules.deps t) (all_true _ (g.rules.deps t) k))
    ] h

pub all_settled-push : (g : Tasks) (steps : List Step) (x : Step) (ds : List ℕ) → list_all (is_settled g steps) ds ≡ true → list_all (is_settled g (steps ++ x ∷ [])) ds ≡ true
unfolding is_settled
all_settled-push g steps x ds h = true_all _ ds (all_weaker _ _ (λ d. settled-push g steps x (suc d) d) ds (all_true _ ds h))

-- ---- ends

abbrev pub has_end : List Step → ℕ → ℕ → Bool
has_end steps t s = list_any (is_end (λ x. x == s) t) steps

pub end-status : (good : ℕ → Bool) (t : ℕ) (steps : List Step) → list_any (is_end good t) steps ≡ true → (s : ℕ) × (good s ≡ true) × (has_end steps t s ≡ true)
end-status good t [] h = absurd (false≢true h)
end-status good t (Start u ∷ steps) h = end-status good t steps h
end-status good t (End u s ∷ steps) h =
    elim (or_cases ((u == t) && good s) (list_any (is_end good t) steps) h) [
      | inl k ↦ let p = and_parts (u == t) (good s) k in (s, p.1, or_left _ (has_end steps t s) (and_from (u == t) (s == s) p.0 (eq-eqb s s refl)))
      | inr k ↦ let w = end-status good t steps k in (w.0, w.1, or_right ((u == t) && (s == w.0)) (has_end steps t w.0) w.2)
    ]

-- an end with this status is an end that passes
pub end-passes : (good : ℕ → Bool) (t s : ℕ) → good s ≡ true → (steps : List Step) → has_end steps t s ≡ true → list_any (is_end good t) steps ≡ true
end-passes good t s h steps = any_mono _ _ (λ x. end_one x) steps
  where
    end_one : (x : Step) → is_end (λ y. y == s) t x ≡ true → is_end good t x ≡ true
    end_one (Start u) k = k
    end_one (End u y) k = let p = and_parts (u == t) (y == s) k in and_from (u == t) (good y) p.0 (rw (eqb-true y s p.1) h)

failure-end : (steps : List Step) → list_any is_failure steps ≡ true → (t s : ℕ) × (not (s == 0) ≡ true) × (has_end steps t s ≡ true)
failure-end [] h = absurd (false≢true h)
failure-end (Start u ∷ steps) h = failure-end steps h
failure-end (End u s ∷ steps) h =
    elim (or_cases (not (s == 0)) (list_any is_failure steps) h) [
      | inl k ↦ (u, s, k, or_left _ (has_end steps u s) (and_from (u == u) (s == s) (eq-eqb u u refl) (eq-eqb s s refl)))
      | inr k ↦ let w = failure-end steps k in (w.0, w.1, w.2, or_right ((u == w.0) && (s == w.1)) (has_end steps w.0 w.1) w.3)
    ]

end-failure : (t s : ℕ) → not (s == 0) ≡ true → (steps : List Step) → has_end steps t s ≡ true → list_any is_failure steps ≡ true
end-failure t s h steps = any_mono _ _ (λ x. one x) steps
  where
    one : (x : Step) → is_end (λ y. y == s) t x ≡ true → is_failure x ≡ true
    one (Start u) k = absurd (false≢true k)
    one (End u y) k = let p = and_parts (u == t) (y == s) k in rw (eqb-true y s p.1) h

-- ---- states and steps

abbrev pub has_started : State → Bool
has_started Waiting = false
has_started Missed = false
has_started Running = true
has_started Passed = false
has_started (Ended s) = true
has_started Left = false

abbrev pub has_ended : State → Bool
has_ended Waiting = false
has_ended Missed = false
has_ended Running = false
has_ended Passed = false
has_ended (Ended s) = true
has_ended Left = false

abbrev pub picks : State → Bool
picks Waiting = false
picks Missed = true
picks Running = true
picks Passed = false
picks (Ended s) = true
picks Left = false

pub record Known (g : Tasks) (steps : List Step) (t : ℕ) (s : State) : Type 0 where
  pub below : t < g.rules.size
  pub deps : list_all (is_settled g steps) (g.rules.deps t) ≡ true
  pub run : g.to_run t ≡ picks s

pub record IsDoomed (g : Tasks) (steps : List Step) (t : ℕ) : Type 0 where
  pub by : ℕ
  pub status : ℕ
  pub over : leads g.rules t t by ≡ true
  pub end : has_end steps by status ≡ true
  pub bad : serves g.rules.mode status ≡ false

pub record Fits (g : Tasks) (steps : List Step) (t : ℕ) (s : State) : Type 0 where
  pub starts : started steps t ≡ has_started s
  pub ends : ended steps t ≡ has_ended s
  pub status : (x : ℕ) → has_end steps t x ≡ true → s ≡ Ended x
  pub known : is_known s ≡ true → Known g steps t s
  pub doomed : s ≡ Left → IsDoomed g steps t

abbrev pub Agrees : Tasks → States → List Step → Type 0
Agrees g st steps = (t : ℕ) → Fits g steps t (st t)

-- a settled task that runs has ended with a status that serves
ended-settled : (g : Tasks) (st : States) (steps : List Step) → Agrees g st steps → (t : ℕ) → g.to_run t ≡ true → is_settled g steps t ≡ true → (s : ℕ) × (st t ≡ Ended s) × (serves g.rules.mode s ≡ true)
ended-settled g st steps agrees t r h =
    let w = end-status (serves g.rules.mode) t steps (any-live g.rules.mode _ steps (sym (settled-run g steps t r) ∙ h)) in
    (w.0, (agrees t).status w.0 w.2, w.1)

-- where the dependencies of a task are settled, all its ancestors are
pub above-settled : (g : Tasks) (st : States) (steps : List Step) → Agrees g st steps → AreLower g.rules → (n t a : ℕ) → list_all (is_settled g steps) (g.rules.deps t) ≡ true → leads g.rules n t a ≡ true → is_settled g steps a ≡ true
above-settled g st steps agrees low zero t a h l = absurd (false≢true l)
above-settled g st steps agrees low (suc n) t a h l =
    any_gives (λ d. is_settled g steps d ≡ true) _ (is_settled g steps a ≡ true)
    (λ d k u. elim (or_cases (d == a) (leads g.rules n d a) u) [
      | inl e ↦ ap (is_settled g steps) (sym (eqb-true d a e)) ∙ k
      | inr v ↦ above-settled g st steps agrees low n d a
          (elim (cases_Bool (g.to_run d)) [
            | inl r ↦ let w = ended-settled g st steps agrees d r k in ((agrees d).known (ap is_known w.1)).deps
            | inr o ↦ sym (settled-other g steps low d o) ∙ k
          ]) v
    ])
    (g.rules.deps t) (all_true _ (g.rules.deps t) h) l

doomed-not : (g : Tasks) (st : States) (steps : List Step) → Agrees g st steps → AreLower g.rules → (t : ℕ) → list_all (is_settled g steps) (g.rules.deps t) ≡ true → IsDoomed g steps t → ⊥
doomed-not g st steps agrees low t h d =
    let a = above-settled g st steps agrees low t t d.by h d.over in
    let is = (agrees d.by).status d.status d.end in
    let run : g.to_run d.by ≡ true = ((agrees d.by).known (ap is_known is)).run ∙ ap picks is in
    let w = ended-settled g st steps agrees d.by run a in
    let same : w.0 ≡ d.status = cc (w.1, is) in
    false≢true (sym d.bad ∙ ap (serves g.rules.mode) (sym same) ∙ w.2)

-- a state with settled dependencies that is not ready
pub well-settled : (g : Tasks) (st : States) (steps : List Step) → Agrees g st steps → AreLower g.rules → NoneReady g.rules st → (n t : ℕ) → t < n → t < g.rules.size → is_settled g steps t ≡ true → is_well g.rules.mode (st t) ≡ true
well-settled g st steps agrees low none zero t l i h = absurd (omega arith)
well-settled g st steps agrees low none (suc n) t l i h =
    elim (cases_Bool (g.to_run t)) [
      | inl r ↦ let w = ended-settled g st steps agrees t r h in rw w.1 w.2
      | inr o ↦
          let deps = sym (settled-other g steps low t o) ∙ h in
          let below = all_true _ (g.rules.deps t) deps in
          let well = true_all (λ d. is_well g.rules.mode (st d)) (g.rules.deps t)
          (all_weaker (λ d. (d < t) × (is_settled g steps d ≡ true)) _ (λ d b. well-settled g st steps agrees low none n d (let k = b.0 in omega arith) (let k = b.0 in omega arith) b.1) (g.rules.deps t) (all_both (λ d. d < t) (λ d. is_settled g steps d ≡ true) (g.rules.deps t) (low t) below)) in
          not-run g st steps agrees low none t i o deps well (st t) refl
    ]
  where
    not-run : (g : Tasks) (st : States) (steps : List Step) → Agrees g st steps → AreLower g.rules → NoneReady g.rules st → (t : ℕ) → t < g.rules.size → g.to_run t ≡ false → list_all (is_settled g steps) (g.rules.deps t) ≡ true
        → list_all (λ d. is_well g.rules.mode (st d)) (g.rules.deps t) ≡ true → (s : State) → st t ≡ s → is_well g.rules.mode s ≡ true
    not-run g st steps agrees low none t i o deps well Waiting e = absurd (true≢false (sym (and_from (is_waiting (st t)) _ (ap is_waiting e) well) ∙ none t i))
    not-run g st steps agrees low none t i o deps well Missed e = absurd (true≢false (sym (ap picks e) ∙ sym ((agrees t).known (ap is_known e)).run ∙ o))
    not-run g st steps agrees low none t i o deps well Running e = absurd (true≢false (sym (ap picks e) ∙ sym ((agrees t).known (ap is_known e)).run ∙ o))
    not-run g st steps agrees low none t i o deps well Passed e = refl
    not-run g st steps agrees low none t i o deps well (Ended s) e = absurd (true≢false (sym (ap picks e) ∙ sym ((agrees t).known (ap is_known e)).run ∙ o))
    not-run g st steps agrees low none t i o deps well Left e = absurd (doomed-not g st steps agrees low t deps ((agrees t).doomed e))

-- the stop of the states is that of the steps
pub stopped-agrees : (g : Tasks) (st : States) (steps : List Step) → Agrees g st steps → is_stopped g.rules.mode steps ≡ has_stopped g.rules st
stopped-agrees g st steps agrees =
    ap (λ b. stops g.rules.mode && b) (bool_same (list_any is_failure steps) (some_below (λ t. has_failed (st t)) g.rules.size)
    (λ h. let w = failure-end steps h in let is = (agrees w.0).status w.1 w.3 in
    some-count (λ t. has_failed (st t)) g.rules.size w.0 ((agrees w.0).known (ap is_known is)).below (ap has_failed is ∙ w.2))
    (λ h. let w = count-some (λ t. has_failed (st t)) g.rules.size h in failed-end w.0 (st w.0) refl w.2))
  where
    failed-end : (t : ℕ) (s : State) → st t ≡ s → has_failed s ≡ true → list_any is_failure steps ≡ true
    failed-end t Waiting e h = absurd (false≢true h)
    failed-end t Missed e h = absurd (false≢true h)
    failed-end t Running e h = absurd (false≢true h)
    failed-end t Passed e h = absurd (false≢true h)
    failed-end t (Ended x) e h =
        let w = end-status (λ y. true) t steps ((agrees t).ends ∙ ap has_ended e) in
        let is : w.0 ≡ x = cc ((agrees t).status w.0 w.2, e) in
        end-failure t w.0 (rw is h) steps w.2
    failed-end t Left e h = absurd (false≢true h)

running-agrees : (g : Tasks) (st : States) (steps : List Step) → Agrees g st steps → (t : ℕ) → is_running steps t ≡ runs (st t)
running-agrees g st steps agrees t = rw ((agrees t).starts, (agrees t).ends) (by-state (st t))
  where
    by-state : (s : State) → (has_started s && not (has_ended s)) ≡ runs s
    by-state Waiting = refl
    by-state Missed = refl
    by-state Running = refl
    by-state Passed = refl
    by-state (Ended x) = refl
    by-state Left = refl

room-agrees : (g : Tasks) (st : States) (steps : List Step) → Agrees g st steps → has_room g steps ≡ room g.rules st
room-agrees g st steps agrees = ap (λ p. nat_lt (count_below p g.rules.size) g.rules.width) (fun_ext (λ t. running-agrees g st steps agrees t))

pub record DueParts (g : Tasks) (steps : List Step) (t : ℕ) : Type 0 where
  pub run : g.to_run t ≡ true
  pub fresh : started steps t ≡ false
  pub calm : is_stopped g.rules.mode steps ≡ false
  pub deps : list_all (is_settled g steps) (g.rules.deps t) ≡ true

not-true : (b : Bool) → not b ≡ true → b ≡ false
not-true true h = absurd (false≢true h)
not-true false h = refl

pub due-parts : (g : Tasks) (steps : List Step) (t : ℕ) → is_due g steps t ≡ true → DueParts g steps t
due-parts g steps t h =
    let p = and_parts (g.to_run t) _ h in
    let q = and_parts (not (started steps t)) _ p.1 in
    let r = and_parts (not (is_stopped g.rules.mode steps)) _ q.1 in
    record { run = p.0; fresh = not-true _ q.0; calm = not-true _ r.0; deps = r.1 }

pub parts-due : (g : Tasks) (steps : List Step) (t : ℕ) → DueParts g steps t → is_due g steps t ≡ true
parts-due g steps t d =
    and_from (g.to_run t) _ d.run
    (and_from (not (started steps t)) _ (ap not d.fresh)
    (and_from (not (is_stopped g.rules.mode steps)) _ (ap not d.calm) d.deps))

-- where nothing is ready, a task that is due is one that was missed
due-missed : (g : Tasks) (st : States) (steps : List Step) → Agrees g st steps → AreLower g.rules → NoneReady g.rules st → (t : ℕ) → t < g.rules.size → is_due g steps t ≡ true → is_missed (st t) ≡ true
due-missed g st steps agrees low none t i h =
    let d = due-parts g steps t h in
    let well = true_all (λ e. is_well g.rules.mode (st e)) (g.rules.deps t)
    (all_weaker (λ e. (e < t) × (is_settled g steps e ≡ true)) _ (λ e b. let k = b.0 in well-settled g st steps agrees low none (suc e) e (omega arith) (omega arith) b.1) (g.rules.deps t)
    (all_both (λ e. e < t) (λ e. is_settled g steps e ≡ true) (g.rules.deps t) (low t) (all_true _ (g.rules.deps t) d.deps))) in
    by-state d well (st t) refl
  where
    by-state : DueParts g steps t → list_all (λ e. is_well g.rules.mode (st e)) (g.rules.deps t) ≡ true → (s : State) → st t ≡ s → is_missed s ≡ true
    by-state d well Waiting e = absurd (true≢false (sym (and_from (is_waiting (st t)) _ (ap is_waiting e) well) ∙ none t i))
    by-state d well Missed e = refl
    by-state d well Running e = absurd (false≢true (sym d.fresh ∙ (agrees t).starts ∙ ap has_started e))
    by-state d well Passed e = absurd (true≢false (sym d.run ∙ ((agrees t).known (ap is_known e)).run ∙ ap picks e))
    by-state d well (Ended s) e = absurd (false≢true (sym d.fresh ∙ (agrees t).starts ∙ ap has_started e))
    by-state d well Left e = absurd (doomed-not g st steps agrees low t d.deps ((agrees t).doomed e))

blocked-means : (g : Tasks) (st : States) (steps : List Step) → Agrees g st steps → AreLower g.rules → IsBlocked g.rules st → NoneBelow (is_startable g steps) g.rules.size
blocked-means g st steps agrees low (inl stopped) u l =
    false_from_ne_true _ (λ h. let d = due-parts g steps u (and_parts (is_due g steps u) _ h).0 in false≢true (sym d.calm ∙ stopped-agrees g st steps agrees ∙ stopped))
blocked-means g st steps agrees low (inr (none, inl missed)) u l =
    false_from_ne_true _ (λ h. true≢false (sym (due-missed g st steps agrees low none u l (and_parts (is_due g steps u) _ h).0) ∙ missed u l))
blocked-means g st steps agrees low (inr (none, inr full)) u l =
    false_from_ne_true _ (λ h. true≢false (sym (and_parts (is_due g steps u) _ h).1 ∙ room-agrees g st steps agrees ∙ full))

-- ---- a move keeps the agreement

settled-well : (g : Tasks) (st : States) (steps : List Step) → Agrees g st steps → AreLower g.rules → has_stopped g.rules st ≡ false → (d : ℕ) → is_well g.rules.mode (st d) ≡ true → is_settled g steps d ≡ true
settled-well g st steps agrees low calm d h = by-state (st d) refl h
  where
    by-state : (s : State) → st d ≡ s → is_well g.rules.mode s ≡ true → is_settled g steps d ≡ true
    by-state Waiting e h = absurd (false≢true h)
    by-state Missed e h = absurd (false≢true h)
    by-state Running e h = absurd (false≢true h)
    by-state Passed e h = let k = (agrees d).known (ap is_known e) in settled-other g steps low d (k.run ∙ ap picks e) ∙ k.deps
    by-state (Ended s) e h =
        let k = (agrees d).known (ap is_known e) in
        let w = end-status (λ y. true) d steps ((agrees d).ends ∙ ap has_ended e) in
        let is : w.0 ≡ s = cc ((agrees d).status w.0 w.2, e) in
        settled-run g steps d (k.run ∙ ap picks e)
        ∙ ap (list_any (is_end (serves g.rules.mode) d)) (calm-live g.rules.mode steps (stopped-agrees g st steps agrees ∙ calm))
        ∙ end-passes (serves g.rules.mode) d w.0 (ap (serves g.rules.mode) is ∙ h) steps w.2
    by-state Left e h = absurd (false≢true h)

pub waiting-is : (s : State) → is_waiting s ≡ true → s ≡ Waiting
waiting-is Waiting h = refl
waiting-is Missed h = absurd (false≢true h)
waiting-is Running h = absurd (false≢true h)
waiting-is Passed h = absurd (false≢true h)
waiting-is (Ended s) h = absurd (false≢true h)
waiting-is Left h = absurd (false≢true h)

pub missed-is : (s : State) → is_missed s ≡ true → s ≡ Missed
missed-is Waiting h = absurd (false≢true h)
missed-is Missed h = refl
missed-is Running h = absurd (false≢true h)
missed-is Passed h = absurd (false≢true h)
missed-is (Ended s) h = absurd (false≢true h)
missed-is Left h = absurd (false≢true h)

put-agrees : (g : Tasks) (st : States) (before steps : List Step) (t : ℕ) (s : State) → Fits g steps t s → ((u : ℕ) → (u == t) ≡ false → Fits g steps u (st u)) → Agrees g (put st t s) steps
put-agrees g st before steps t s here other u =
    elim (cases_Bool (u == t)) [
      | inl e ↦ rw e (subst (λ v. Fits g steps v s) (sym (eqb-true u t e)) here)
      | inr f ↦ rw f (other u f)
    ]

-- what is looked up gets a state without a step
pub looked-agrees : (g : Tasks) (st : States) (steps : List Step) → Agrees g st steps → AreLower g.rules → (t : ℕ) → Means g.rules st (Lookup t) → (s : State) → is_known s ≡ true → has_started s ≡ false → has_ended s ≡ false → g.to_run t ≡ picks s → Agrees g (put st t s) steps
looked-agrees g st steps agrees low t (calm, i, ready) s known quiet unended run =
    let p = and_parts (is_waiting (st t)) _ ready in
    let is = waiting-is (st t) p.0 in
    put-agrees g st steps steps t s
    (record {
      starts = (agrees t).starts ∙ ap has_started is ∙ sym quiet;
      ends = (agrees t).ends ∙ ap has_ended is ∙ sym unended;
      status = λ x h. absurd (false≢true (ap is_known (sym is ∙ (agrees t).status x h)));
      known = λ _. record { below = i; deps = true_all _ (g.rules.deps t) (all_weaker _ _ (λ d. settled-well g st steps agrees low calm d) (g.rules.deps t) (all_true _ (g.rules.deps t) p.1)); run = run };
      doomed = λ e. absurd (true≢false (sym known ∙ ap is_known e));
    })
    (λ u _. agrees u)

-- a step of another task
push-other : (g : Tasks) (steps : List Step) (x : Step) (u : ℕ) (s : State) → is_start u x ≡ false → ((good : ℕ → Bool) → is_end good u x ≡ false) → Fits g steps u s → Fits g (steps ++ x ∷ []) u s
push-other g steps x u s quiet unended fits = record {
  starts = any-push_none (is_start u) steps x quiet ∙ fits.starts;
  ends = any-push_none (is_end (λ y. true) u) steps x (unended _) ∙ fits.ends;
  status = λ y h. fits.status y (sym (any-push_none (is_end (λ z. z == y) u) steps x (unended _)) ∙ h);
  known = λ k. let old = fits.known k in record { below = old.below; deps = all_settled-push g steps x (g.rules.deps u) old.deps; run = old.run };
  doomed = λ e. let old = fits.doomed e in record { by = old.by; status = old.status; over = old.over; end = any-push_left _ steps x old.end; bad = old.bad };
}

other_way : (u t : ℕ) → (u == t) ≡ false → (t == u) ≡ false
other_way u t h = ne_eqb t u (λ e. true≢false (sym (eq-eqb u t (sym e)) ∙ h))

pub start-agrees : (g : Tasks) (st : States) (steps : List Step) → Agrees g st steps → (t : ℕ) → st t ≡ Missed → Agrees g (put st t Running) (steps ++ Start t ∷ [])
start-agrees g st steps agrees t is =
    let old = agrees t in
    let known = old.known (ap is_known is) in
    put-agrees g st steps (steps ++ Start t ∷ []) t Running
    (record {
      starts = any-push_right (is_start t) steps (Start t) (eq-eqb t t refl);
      ends = any-push_none _ steps (Start t) refl ∙ old.ends ∙ ap has_ended is;
      status = λ x h. absurd (let bad = sym is ∙ old.status x (sym (any-push_none (is_end (λ z. z == x) t) steps (Start t) refl) ∙ h) in false≢true (ap has_ended bad));
      known = λ _. record { below = known.below; deps = all_settled-push g steps (Start t) (g.rules.deps t) known.deps; run = known.run ∙ ap picks is };
      doomed = λ e. absurd (true≢false (ap is_known e));
    })
    (λ u f. push-other g steps (Start t) u (st u) (other_way u t f) (λ good. refl) (agrees u))

unknown-quiet : (s : State) → is_known s ≡ false → (has_started s ≡ false) × (has_ended s ≡ false)
unknown-quiet Waiting h = (refl, refl)
unknown-quiet Missed h = absurd (true≢false h)
unknown-quiet Running h = absurd (true≢false h)
unknown-quiet Passed h = absurd (true≢false h)
unknown-quiet (Ended s) h = absurd (true≢false h)
unknown-quiet Left h = (refl, refl)

pub end-agrees : (g : Tasks) (st : States) (steps : List Step) → Agrees g st steps → AreLower g.rules → (t s : ℕ) → st t ≡ Running → Agrees g (after_end g.rules st t s) (steps ++ End t s ∷ [])
end-agrees g st steps agrees low t s is u =
    elim (cases_Bool (not (serves g.rules.mode s) && leads g.rules u u t)) [
      | inl h ↦ rw h (left u (and_parts (not (serves g.rules.mode s)) (leads g.rules u u t) h))
      | inr f ↦ rw f (put-agrees g st steps (steps ++ End t s ∷ []) t (Ended s) here (λ v d. push-other g steps (End t s) v (st v) refl (λ good. and_left (t == v) (good s) (other_way v t d)) (agrees v)) u)
    ]
  where
    here : Fits g (steps ++ End t s ∷ []) t (Ended s)
    here =
        let old = agrees t in
        let known = old.known (ap is_known is) in
        record {
          starts = any-push_none (is_start t) steps (End t s) refl ∙ old.starts ∙ ap has_started is;
          ends = any-push_right (is_end (λ y. true) t) steps (End t s) (and_from (t == t) true (eq-eqb t t refl) refl);
          status = λ x h. elim (or_cases (has_end steps t x) _ (sym (any-push (is_end (λ z. z == x) t) steps (End t s)) ∙ h)) [
            | inl k ↦ absurd (false≢true (ap has_ended (sym is ∙ old.status x k)))
            | inr k ↦ ap Ended (eqb-true s x (and_parts (t == t) (s == x) k).1)
          ];
          known = λ _. record { below = known.below; deps = all_settled-push g steps (End t s) (g.rules.deps t) known.deps; run = known.run ∙ ap picks is };
          doomed = λ e. absurd (true≢false (ap is_known e));
        }

    left : (u : ℕ) → (not (serves g.rules.mode s) ≡ true) × (leads g.rules u u t ≡ true) → Fits g (steps ++ End t s ∷ []) u Left
    left u h =
        let lower = leads-lower g.rules low u u t h.1 in
        let run : g.to_run t ≡ true = ((agrees t).known (ap is_known is)).run ∙ ap picks is in
        let unknown : is_known (st u) ≡ false = false_from_ne_true _ (λ k.
        let w = ended-settled g st steps agrees t run (above-settled g st steps agrees low u u t ((agrees u).known k).deps h.1) in
        false≢true (ap has_ended (sym is ∙ w.1))) in
        let quiet = unknown-quiet (st u) unknown in
        let apart : (t == u) ≡ false = ne_eqb t u (λ e. omega (arith, lower, e)) in
        record {
          starts = any-push_none (is_start u) steps (End t s) refl ∙ (agrees u).starts ∙ quiet.0;
          ends = any-push_none (is_end (λ y. true) u) steps (End t s) (and_left (t == u) true apart) ∙ (agrees u).ends ∙ quiet.1;
          status = λ x k. absurd (true≢false (sym (ap is_known ((agrees u).status x (sym (any-push_none (is_end (λ z. z == x) u) steps (End t s) (and_left (t == u) (s == x) apart)) ∙ k))) ∙ unknown));
          known = λ k. absurd (false≢true k);
          doomed = λ _. record { by = t; status = s; over = h.1; end = any-push_right _ steps (End t s) (and_from (t == t) (s == s) (eq-eqb t t refl) (eq-eqb s s refl)); bad = not-true _ h.0 };
        }

start-next : (g : Tasks) (st : States) (steps : List Step) → Agrees g st steps → AreLower g.rules → (t : ℕ) → Means g.rules st (Begin t) → IsNextStep g steps (Start t)
start-next g st steps agrees low t (calm, none, i, missed, before, free) =
    let is = missed-is (st t) missed in
    let known = (agrees t).known (ap is_known is) in (
      i,
      and_from (is_due g steps t) _ (parts-due g steps t (record { run = known.run ∙ ap picks is; fresh = (agrees t).starts ∙ ap has_started is; calm = stopped-agrees g st steps agrees ∙ calm; deps = known.deps })) (room-agrees g st steps agrees ∙ free),
      λ u l. false_from_ne_true _ (λ h. true≢false (sym (due-missed g st steps agrees low none u (lt_trans l i) (and_parts (is_due g steps u) _ h).0) ∙ before u l)),
    )

core-from : (g : Tasks) → AreLower g.rules → (moves : List Move) (st : States) (steps : List Step) → Agrees g st steps → IsRun g st moves → IsGreedyAfter g steps (steps_of moves)
core-from g low [] st steps agrees run =
    let m = subst (Means g.rules st) run (next-means g.rules st) in
    λ u l. (running-agrees g st steps agrees u ∙ m.1 u l, blocked-means g st steps agrees low m.0 u l)
core-from g low (Finds t ∷ moves) st steps agrees run =
    let m = subst (Means g.rules st) run.0.0 (next-means g.rules st) in
    core-from g low moves (put st t Passed) steps (looked-agrees g st steps agrees low t m Passed refl refl refl run.0.1) run.1
core-from g low (Misses t ∷ moves) st steps agrees run =
    let m = subst (Means g.rules st) run.0.0 (next-means g.rules st) in
    core-from g low moves (put st t Missed) steps (looked-agrees g st steps agrees low t m Missed refl refl refl run.0.1) run.1
core-from g low (Starts t ∷ moves) st steps agrees run =
    let m = subst (Means g.rules st) run.0 (next-means g.rules st) in
    (start-next g st steps agrees low t m, core-from g low moves (put st t Running) (steps ++ Start t ∷ []) (start-agrees g st steps agrees t (missed-is (st t) m.3)) run.1)
core-from g low (Ends t s ∷ moves) st steps agrees run =
    let m = subst (Means g.rules st) run.0.0 (next-means g.rules st) in (
      (run.0.1, running-agrees g st steps agrees t ∙ ap runs run.0.2, blocked-means g st steps agrees low m.0),
      core-from g low moves (after_end g.rules st t s) (steps ++ End t s ∷ []) (end-agrees g st steps agrees low t s run.0.2) run.1,
    )

pub none-agrees : (g : Tasks) → Agrees g (λ t. Waiting) []
none-agrees g t = record {
  starts = refl;
  ends = refl;
  status = λ x h. absurd (false≢true h);
  known = λ k. absurd (false≢true k);
  doomed = λ e. absurd (cc);
}

pub core_law_lem : (g : Tasks) (moves : List Move) → AreLower g.rules → IsRun g (λ t. Waiting) moves → IsGreedy g (steps_of moves)
core_law_lem g moves low run = core-from g low moves (λ t. Waiting) [] (none-agrees g) run

pub missed-deps : (g : Tasks) (st : States) (steps : List Step) → Agrees g st steps → (t : ℕ) → is_missed (st t) ≡ true → list_all (is_settled g steps) (g.rules.deps t) ≡ true
missed-deps g st steps agrees t h = ((agrees t).known (ap is_known (missed-is (st t) h))).deps

pub lead-agrees : (g : Tasks) → AreLower g.rules → (moves : List Move) (st to : States) (steps : List Step) → Agrees g st steps → Lead g st moves to → Agrees g to (steps ++ steps_of moves)
lead-agrees g low [] st to steps agrees e = rw append-nil (subst (λ x. Agrees g x steps) e agrees)
lead-agrees g low (Finds t ∷ moves) st to steps agrees run =
    let m = subst (Means g.rules st) run.0.0 (next-means g.rules st) in
    lead-agrees g low moves (put st t Passed) to steps (looked-agrees g st steps agrees low t m Passed refl refl refl run.0.1) run.1
lead-agrees g low (Misses t ∷ moves) st to steps agrees run =
    let m = subst (Means g.rules st) run.0.0 (next-means g.rules st) in
    lead-agrees g low moves (put st t Missed) to steps (looked-agrees g st steps agrees low t m Missed refl refl refl run.0.1) run.1
lead-agrees g low (Starts t ∷ moves) st to steps agrees run =
    let m = subst (Means g.rules st) run.0 (next-means g.rules st) in
    rw (← append_assoc steps (Start t ∷ []) (steps_of moves)) (lead-agrees g low moves (put st t Running) to (steps ++ Start t ∷ []) (start-agrees g st steps agrees t (missed-is (st t) m.3)) run.1)
lead-agrees g low (Ends t s ∷ moves) st to steps agrees run =
    rw (← append_assoc steps (End t s ∷ []) (steps_of moves)) (lead-agrees g low moves (after_end g.rules st t s) to (steps ++ End t s ∷ []) (end-agrees g st steps agrees low t s run.0.2) run.1)
