use Rattle.std.proofs.Common.{◌≡◌, ℕ, zero, suc, ◌<◌, ◌≤◌, ◌&&◌, not, true, List, [], refl, subst, arith, inl, inr, lt_trans}
use Rattle.std.proofs.lemmas.Bool.{cases_Bool, cases_eq, and_parts, eq-eqb, ne_eqb}
use Rattle.run_core.specs.declared.states.Step.{Step}
use Rattle.run_core.specs.declared.states.State.{State}
use Rattle.run_core.specs.declared.states.State.TheVariants.{Waiting, Missed, Running, Passed, Ended, Left}
use Rattle.run_core.specs.declared.states.Next.{Next}
use Rattle.run_core.specs.declared.states.Next.TheVariants.{Lookup, Start as Begin, WaitFirst, Finished}
use Rattle.run_core.specs.Greedy.{Tasks, serves, AreLower}
use Rattle.run_core.specs.Machine.{States, next, leads, is_well, is_waiting, is_known, runs, put, after_end, NextLaw}
use Rattle.run_core.specs.Greedy.{count_below}
use Rattle.run_core.proofs.Calm.{apart, calm-look}
use Rattle.run_core.proofs.Moved.{put-here, put-there}
use Rattle.std.proofs.Common.{◌⊎◌, sym, ap, ◌∙◌}
use Rattle.std.proofs.lemmas.Bool.{false≢true, ltb-true}
use Rattle.run_core.specs.Moves.{Move, Allows, after, steps_of}
use Rattle.run_core.specs.Moves.Move.{Finds, Misses, Starts, Ends}
use Rattle.run_core.specs.Moves.{IsAt}
use Rattle.run_core.specs.Moves.{turns, sum_below, turns_left}
use Rattle.run_core.proofs.NextMeans.{Means, next-means}
use Rattle.run_core.proofs.Steps.{waiting-is, missed-is, lead-agrees, none-agrees, well-settled, above-settled, missed-deps}
use Rattle.run_core.proofs.Above.{leads-lower}

sum-le : (f h : ℕ → ℕ) (n : ℕ) → ((t : ℕ) → f t ≤ h t) → sum_below f n ≤ sum_below h n
sum-le f h zero le = omega arith
sum-le f h (suc n) le = omega (arith, le n, sum-le f h n le)

sum-lt : (f h : ℕ → ℕ) (n u : ℕ) → ((t : ℕ) → f t ≤ h t) → u < n → f u < h u → sum_below f n < sum_below h n
sum-lt f h zero u le l lt = absurd (omega arith)
sum-lt f h (suc n) u le l lt =
    elim (cases_eq u n) [
      | inl e ↦ let k : f n < h n = rw (← e) lt in omega (arith, k, sum-le f h n le)
      | inr d ↦ omega (arith, le n, sum-lt f h n u le (omega arith) lt)
    ]

put-less : (g : Tasks) (st : States) (t : ℕ) (s : State) → t < g.rules.size → turns s < turns (st t) → turns_left g.rules (put st t s) < turns_left g.rules st
put-less g st t s l lt =
    sum-lt (λ u. turns (put st t s u)) (λ u. turns (st u)) g.rules.size t
    (λ u. elim (cases_eq u t) [ inl e ↦ rw (eq-eqb u t e, e) (omega arith) | inr d ↦ rw (ne_eqb u t d) (omega arith) ])
    l (rw (eq-eqb t t refl) lt)

end-less : (g : Tasks) (st : States) (t s : ℕ) → t < g.rules.size → st t ≡ Running → turns_left g.rules (after_end g.rules st t s) < turns_left g.rules st
end-less g st t s l is =
    sum-lt (λ u. turns (after_end g.rules st t s u)) (λ u. turns (st u)) g.rules.size t
    (λ u. elim (cases_Bool (not (serves g.rules.mode s) && leads g.rules u u t)) [
      | inl h ↦ rw h (omega arith)
      | inr f ↦ rw f (elim (cases_eq u t) [ inl e ↦ rw (eq-eqb u t e) (omega arith) | inr d ↦ rw (ne_eqb u t d) (omega arith) ])
    ])
    l
    (elim (cases_Bool (not (serves g.rules.mode s) && leads g.rules t t t)) [ inl h ↦ rw (h, is) (omega arith) | inr f ↦ rw (f, eq-eqb t t refl, is) (omega arith) ])

pub turns-fewer : (g : Tasks) (st : States) (m : Move) → Allows g st m → turns_left g.rules (after g st m) < turns_left g.rules st
turns-fewer g st (Finds t) a = let m = subst (Means g.rules st) a.0 (next-means g.rules st) in put-less g st t Passed m.1 (rw (waiting-is (st t) (and_parts (is_waiting (st t)) _ m.2).0) (omega arith))
turns-fewer g st (Misses t) a = let m = subst (Means g.rules st) a.0 (next-means g.rules st) in put-less g st t Missed m.1 (rw (waiting-is (st t) (and_parts (is_waiting (st t)) _ m.2).0) (omega arith))
turns-fewer g st (Starts t) a = let m = subst (Means g.rules st) a (next-means g.rules st) in put-less g st t Running m.2 (rw (missed-is (st t) m.3) (omega arith))
turns-fewer g st (Ends t s) a = end-less g st t s a.1 a.2

pub start-well : (g : Tasks) (st : States) (steps : List Step) (t a : ℕ) → AreLower g.rules → IsAt g st steps → next g.rules st ≡ Begin t → leads g.rules t t a ≡ true → is_well g.rules.mode (st a) ≡ true
start-well g st steps t a low at e l =
    let agrees = lead-agrees g low at.moves (λ u. Waiting) st [] (none-agrees g) at.lead in
    let m = subst (Means g.rules st) e (next-means g.rules st) in
    let deps = missed-deps g st (steps_of at.moves) agrees t m.3 in
    well-settled g st (steps_of at.moves) agrees low m.1 (suc a) a (omega arith) (lt_trans (leads-lower g.rules low t t a l) m.2) (above-settled g st (steps_of at.moves) agrees low t t a deps l)

runs-is : (s : State) → runs s ≡ true → s ≡ Running
runs-is Waiting h = absurd (false≢true h)
runs-is Missed h = absurd (false≢true h)
runs-is Running h = refl
runs-is Passed h = absurd (false≢true h)
runs-is (Ended x) h = absurd (false≢true h)
runs-is Left h = absurd (false≢true h)

-- until a run is over some move is allowed
pub some-move : (g : Tasks) (st : States) → (next g.rules st ≡ Finished) ⊎ ((m : Move) × Allows g st m)
some-move g st = by (next g.rules st) refl
  where
    by : (n : Next) → next g.rules st ≡ n → (next g.rules st ≡ Finished) ⊎ ((m : Move) × Allows g st m)
    by (Lookup t) e = elim (cases_Bool (g.to_run t)) [ inl r ↦ inr (Misses t, (e, r)) | inr o ↦ inr (Finds t, (e, o)) ]
    by (Begin t) e = inr (Starts t, e)
    by WaitFirst e = let m = subst (Means g.rules st) e (next-means g.rules st) in inr (Ends m.1.0 0, (e, m.1.1, runs-is (st m.1.0) m.1.2))
    by Finished e = inl e

pub next-tells : NextLaw
next-tells = record {
  lookup = λ g st t e. let m = subst (Means g st) e (next-means g st) in let p = and_parts (is_waiting (st t)) _ m.2 in (m.1, waiting-is (st t) p.0, p.1);
  above = λ g st t a low calm e h.
      let m = subst (Means g st) e (next-means g st) in
      let is = waiting-is (st t) (and_parts (is_waiting (st t)) _ m.2).0 in
      sym (ap (is_well g.mode) (put-there st t Missed a (λ k. apart g st low t a h (sym k)))) ∙ calm-look g st low calm t Missed m t a h (ap is_known (put-here st t Missed));
  start = λ g st t e. let m = subst (Means g st) e (next-means g st) in (m.2, missed-is (st t) m.3, ltb-true (count_below (λ u. runs (st u)) g.size) g.width m.5);
  wait = λ g st e. let m = subst (Means g st) e (next-means g st) in (m.1.0, m.1.1, runs-is (st m.1.0) m.1.2);
  finished = λ g st t e l. let m = subst (Means g st) e (next-means g st) in m.1 t l;
}
