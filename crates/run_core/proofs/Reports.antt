-- At the end of a run the states tell which tasks it reports.
use Rattle.std.proofs.Common.{◌≡◌, ℕ, zero, suc, ◌<◌, ◌==◌, ◌&&◌, ◌||◌, not, cond, true, false, List, [], ◌∷◌, ◌++◌, refl, sym, ap, ◌∙◌, subst, arith, inl, inr, append-nil, append_assoc}
use mathlib.Core.Path.{fun_ext}
use Rattle.std.specs.List.{list_any, list_all}
use Rattle.std.proofs.lemmas.Bool.{cases_Bool, cases_eq, or_cases, and_parts, and_right, false≢true, true≢false, ne_eqb}
use Rattle.run_core.specs.declared.states.Mode.{Mode}
use Rattle.run_core.specs.declared.states.Mode.TheVariants.{Never, DependenciesSuccessful, Always}
use Rattle.run_core.specs.declared.states.Step.{Step}
use Rattle.run_core.specs.declared.states.Step.TheVariants.{Start, End}
use Rattle.run_core.specs.declared.states.State.{State}
use Rattle.run_core.specs.declared.states.State.TheVariants.{Waiting, Missed, Running, Passed, Ended, Left}
use Rattle.run_core.specs.declared.states.Next.TheVariants.{Finished}
use Rattle.run_core.specs.Greedy.{Tasks, stops, serves, is_end, is_failure, before_failure, live, is_stopped, settled, is_settled, AreLower}
use Rattle.run_core.specs.Machine.{States, is_known, next, leads, put, after_end, is_well}
use Rattle.run_core.specs.Moves.{Move, steps_of}
use Rattle.run_core.specs.Moves.Move.{Finds, Misses, Starts, Ends}
use Rattle.run_core.specs.Moves.{Lead, IsAt}
use Rattle.run_core.specs.Machine.{is_done}
use Rattle.run_core.specs.Greedy.{is_reported}
use Rattle.run_core.proofs.Any.{any-push, any-push_none, bool_same}
use Rattle.run_core.proofs.NextMeans.{Means, IsBlocked, next-means}
use Rattle.run_core.proofs.Steps.{Agrees, picks, has_ended, stopped-agrees, well-settled, above-settled, settled-other, calm-before, looked-agrees, start-agrees, end-agrees, missed-is, none-agrees}

-- what is settled hangs on the live steps alone
settled-live : (g : Tasks) (a b : List Step) → live g.rules.mode a ≡ live g.rules.mode b → (n t : ℕ) → settled g a n t ≡ settled g b n t
settled-live g a b e zero t = refl
settled-live g a b e (suc n) t =
    let below = fun_ext (settled-live g a b e n) in
    λ j. cond (g.to_run t) (list_any (is_end (serves g.rules.mode) t) (e j)) (list_all (below j) (g.rules.deps t))

is_settled-live : (g : Tasks) (a b : List Step) → live g.rules.mode a ≡ live g.rules.mode b → (t : ℕ) → is_settled g a t ≡ is_settled g b t
unfolding is_settled
is_settled-live g a b e t = settled-live g a b e (suc t) t

before-stopped : (steps : List Step) (x : Step) → list_any is_failure steps ≡ true → before_failure (steps ++ x ∷ []) ≡ before_failure steps
before-stopped [] x h = absurd (false≢true h)
before-stopped (s ∷ steps) x h =
    elim (is_failure s) as (λ b. (b || list_any is_failure steps) ≡ true → cond b [] (s ∷ before_failure (steps ++ x ∷ [])) ≡ cond b [] (s ∷ before_failure steps)) [
      | true ↦ λ k. refl
      | false ↦ λ k. ap (λ xs. s ∷ xs) (before-stopped steps x k)
    ] h

before-first : (steps : List Step) (x : Step) → list_any is_failure steps ≡ false → is_failure x ≡ true → before_failure (steps ++ x ∷ []) ≡ steps
before-first [] x h f = rw f refl
before-first (s ∷ steps) x h f =
    elim (is_failure s) as (λ b. (b || list_any is_failure steps) ≡ false → cond b [] (s ∷ before_failure (steps ++ x ∷ [])) ≡ s ∷ steps) [
      | true ↦ λ k. absurd (true≢false k)
      | false ↦ λ k. ap (λ xs. s ∷ xs) (before-first steps x k f)
    ] h

-- all that is settled stands well
abbrev AllWell : Tasks → States → List Step → Type 0
AllWell g st steps = (u : ℕ) → u < g.rules.size → is_settled g steps u ≡ true → is_well g.rules.mode (st u) ≡ true

abbrev Stable : Tasks → States → List Step → Type 0
Stable g st steps = is_stopped g.rules.mode steps ≡ true → AllWell g st steps

blocked-well : (g : Tasks) (st : States) (steps : List Step) → Agrees g st steps → AreLower g.rules → Stable g st steps → IsBlocked g.rules st → AllWell g st steps
blocked-well g st steps agrees low stable (inl stopped) = stable (stopped-agrees g st steps agrees ∙ stopped)
blocked-well g st steps agrees low stable (inr rest) = λ u l h. well-settled g st steps agrees low rest.0 (suc u) u (omega arith) l h

well-known : (mode : Mode) (s : State) → is_well mode s ≡ true → is_known s ≡ true
well-known mode Waiting h = absurd (false≢true h)
well-known mode Missed h = absurd (false≢true h)
well-known mode Running h = absurd (false≢true h)
well-known mode Passed h = refl
well-known mode (Ended s) h = refl
well-known mode Left h = absurd (false≢true h)

-- an end of a running task leaves what is well as it is
end-well : (g : Tasks) (st : States) (steps : List Step) → Agrees g st steps → AreLower g.rules → AllWell g st steps → (t s : ℕ) → t < g.rules.size → st t ≡ Running → (u : ℕ) → is_well g.rules.mode (st u) ≡ true → is_well g.rules.mode (after_end g.rules st t s u) ≡ true
end-well g st steps agrees low all t s i is u h =
    elim (cases_Bool (not (serves g.rules.mode s) && leads g.rules u u t)) [
      | inl k ↦ absurd (let deps = ((agrees u).known (well-known g.rules.mode (st u) h)).deps in
          false≢true (sym (ap (is_well g.rules.mode) is) ∙ all t i (above-settled g st steps agrees low u u t deps (and_parts (not (serves g.rules.mode s)) (leads g.rules u u t) k).1)))
      | inr f ↦ rw f (elim (cases_eq u t) [
        | inl e ↦ absurd (false≢true (sym (ap (is_well g.rules.mode) is) ∙ ap (λ v. is_well g.rules.mode (st v)) (sym e) ∙ h))
        | inr d ↦ rw (ne_eqb u t d) h
      ])
    ]

end-stable : (g : Tasks) (st : States) (steps : List Step) → Agrees g st steps → AreLower g.rules → AllWell g st steps → (t s : ℕ) → t < g.rules.size → st t ≡ Running → Stable g (after_end g.rules st t s) (steps ++ End t s ∷ [])
end-stable g st steps agrees low all t s i is stopped u l h =
    end-well g st steps agrees low all t s i is u (all u l (sym (is_settled-live g (steps ++ End t s ∷ []) steps (by g.rules.mode stopped) u) ∙ h))
  where
    by : (mode : Mode) → is_stopped mode (steps ++ End t s ∷ []) ≡ true → live mode (steps ++ End t s ∷ []) ≡ live mode steps
    by Never k = elim (cases_Bool (list_any is_failure steps)) [
      | inl y ↦ before-stopped steps (End t s) y
      | inr n ↦ before-first steps (End t s) n (elim (or_cases (list_any is_failure steps) (not (s == 0)) (sym (any-push is_failure steps (End t s)) ∙ k)) [ inl y ↦ absurd (true≢false (sym y ∙ n)) | inr y ↦ y ]) ∙ sym (calm-before steps n)
    ]
    by DependenciesSuccessful k = absurd (false≢true k)
    by Always k = absurd (false≢true k)

record Both (g : Tasks) (st : States) (steps : List Step) : Type 0 where
  agrees : Agrees g st steps
  stable : Stable g st steps

lead-both : (g : Tasks) → AreLower g.rules → (moves : List Move) (st to : States) (steps : List Step) → Both g st steps → Lead g st moves to → Both g to (steps ++ steps_of moves)
lead-both g low [] st to steps both e = rw append-nil (subst (λ x. Both g x steps) e both)
lead-both g low (Finds t ∷ moves) st to steps both run =
    let m = subst (Means g.rules st) run.0.0 (next-means g.rules st) in
    lead-both g low moves (put st t Passed) to steps (record {
      agrees = looked-agrees g st steps both.agrees low t m Passed refl refl refl run.0.1;
      stable = λ k. absurd (false≢true (sym m.0 ∙ sym (stopped-agrees g st steps both.agrees) ∙ k));
    }) run.1
lead-both g low (Misses t ∷ moves) st to steps both run =
    let m = subst (Means g.rules st) run.0.0 (next-means g.rules st) in
    lead-both g low moves (put st t Missed) to steps (record {
      agrees = looked-agrees g st steps both.agrees low t m Missed refl refl refl run.0.1;
      stable = λ k. absurd (false≢true (sym m.0 ∙ sym (stopped-agrees g st steps both.agrees) ∙ k));
    }) run.1
lead-both g low (Starts t ∷ moves) st to steps both run =
    let m = subst (Means g.rules st) run.0 (next-means g.rules st) in
    rw (← append_assoc steps (Start t ∷ []) (steps_of moves)) (lead-both g low moves (put st t Running) to (steps ++ Start t ∷ []) (record {
      agrees = start-agrees g st steps both.agrees t (missed-is (st t) m.3);
      stable = λ k. absurd (false≢true (sym m.0 ∙ sym (stopped-agrees g st steps both.agrees) ∙ ap (λ b. stops g.rules.mode && b) (sym (any-push_none is_failure steps (Start t) refl)) ∙ k));
    }) run.1)
lead-both g low (Ends t s ∷ moves) st to steps both run =
    let m = subst (Means g.rules st) run.0.0 (next-means g.rules st) in
    rw (← append_assoc steps (End t s ∷ []) (steps_of moves)) (lead-both g low moves (after_end g.rules st t s) to (steps ++ End t s ∷ []) (record {
      agrees = end-agrees g st steps both.agrees low t s run.0.2;
      stable = end-stable g st steps both.agrees low (blocked-well g st steps both.agrees low both.stable m.0) t s run.0.1 run.0.2;
    }) run.1)

none-both : (g : Tasks) → Both g (λ t. Waiting) []
none-both g = record { agrees = none-agrees g; stable = λ k. absurd (false≢true (sym (and_right (stops g.rules.mode) false refl) ∙ k)) }

-- by the state of the task
by-state : (g : Tasks) (st : States) (steps : List Step) → Agrees g st steps → AreLower g.rules → AllWell g st steps → (t : ℕ) → t < g.rules.size → is_reported g steps t ≡ is_done (st t)
by-state g st steps agrees low all t i =
    elim (cases_Bool (g.to_run t)) [
      | inl r ↦ rw r ((agrees t).ends ∙ ended-done (st t) refl r)
      | inr o ↦ rw o (bool_same (is_settled g steps t) (is_done (st t)) (λ h. well-done (st t) (all t i h)) (λ h. done-settled (st t) refl o h))
    ]
  where
    ended-done : (s : State) → st t ≡ s → g.to_run t ≡ true → has_ended s ≡ is_done s
    ended-done Waiting e r = refl
    ended-done Missed e r = refl
    ended-done Running e r = refl
    ended-done Passed e r = absurd (true≢false (sym r ∙ ((agrees t).known (ap is_known e)).run ∙ ap picks e))
    ended-done (Ended x) e r = refl
    ended-done Left e r = refl

    well-done : (s : State) → is_well g.rules.mode s ≡ true → is_done s ≡ true
    well-done Waiting h = absurd (false≢true h)
    well-done Missed h = absurd (false≢true h)
    well-done Running h = absurd (false≢true h)
    well-done Passed h = refl
    well-done (Ended x) h = refl
    well-done Left h = absurd (false≢true h)

    done-settled : (s : State) → st t ≡ s → g.to_run t ≡ false → is_done s ≡ true → is_settled g steps t ≡ true
    done-settled Waiting e o h = absurd (false≢true h)
    done-settled Missed e o h = absurd (false≢true h)
    done-settled Running e o h = absurd (false≢true h)
    done-settled Passed e o h = settled-other g steps low t o ∙ ((agrees t).known (ap is_known e)).deps
    done-settled (Ended x) e o h = settled-other g steps low t o ∙ ((agrees t).known (ap is_known e)).deps
    done-settled Left e o h = absurd (false≢true h)

pub reported-done : (g : Tasks) (st : States) (steps : List Step) (t : ℕ) → AreLower g.rules → IsAt g st steps → next g.rules st ≡ Finished → t < g.rules.size → is_reported g steps t ≡ is_done (st t)
reported-done g st steps t low at e i =
    let both = lead-both g low at.moves (λ u. Waiting) st [] (none-both g) at.lead in
    let m = subst (Means g.rules st) e (next-means g.rules st) in
    subst (λ s. is_reported g s t ≡ is_done (st t)) (sym at.steps_are)
    (by-state g st (steps_of at.moves) both.agrees low (blocked-well g st (steps_of at.moves) both.agrees low both.stable m.0) t i)
