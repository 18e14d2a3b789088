-- Whatever comes to a file, there are other runs that bring it.
use Rattle.std.proofs.Common.{◌≡◌, ℕ, suc, ◌≤◌, max, ◌==◌, false, List, [], ◌∷◌, ◌++◌, map, refl}
use Rattle.std.proofs.Common.{sym, ap, ◌∙◌, subst, inl, inr, append-nil, arith}
use Rattle.std.proofs.lemmas.Bool.{cases_Bool, eq-eqb, eqb-true, ne_eqb}
use Rattle.cache_api.specs.Pairs.{Pair}
use Rattle.shared_views.specs.Machine.{Event}
use Rattle.shared_views.specs.Machine.Event.{Enter, Add}
use Rattle.shared_views.specs.Histories.{run_of, events_of, IsInside, IsRun, IsHistory, added}
use Rattle.shared_views.proofs.Folded.{events_of-append}
use Rattle.shared_views.proofs.Going.{own-adds, added-adds}

-- the run with this number and all greater ones have no event among these
abbrev IsAbove : ℕ → List Event → Type 0
IsAbove n events = (j : ℕ) → n ≤ j → events_of j events ≡ []

above-more : (n : ℕ) (e : Event) (events : List Event) → IsAbove n events
    → IsAbove (max n (suc (run_of e))) (e ∷ events)
above-more n e events above j le =
    rw (ne_eqb (run_of e) j (λ same. absurd (omega (arith, le, same))))
    (above j (omega (arith, le)))

pub unused : (events : List Event) → (n : ℕ) × IsAbove n events
unused [] = (0, λ j le. refl)
unused (e ∷ events) =
    let (n, above) = unused events in
    (max n (suc (run_of e)), above-more n e events above)

-- a run that has done nothing yet enters and adds the pairs
abbrev pub brought : ℕ → List Pair → List Event
brought j pairs = Enter j ∷ map (Add j) pairs

pub brought-apart : (i j : ℕ) (pairs : List Pair) → (j == i) ≡ false
    → events_of i (brought j pairs) ≡ []
brought-apart i j pairs other = rw other ((own-adds j pairs).apart i other)

pub brought-added : (j : ℕ) (pairs : List Pair) → added (brought j pairs) ≡ pairs
brought-added j pairs = added-adds j pairs

pub brought-history : (events : List Event) (pairs : List Pair) (j : ℕ)
    → events_of j events ≡ [] → IsHistory events → IsHistory (events ++ brought j pairs)
brought-history events pairs j none history k = elim (cases_Bool (j == k)) [
  | inl same ↦
      subst (λ n. IsRun (events_of n (events ++ brought j pairs))) (eqb-true j k same)
      (subst IsRun (sym (events_of-append j events (brought j pairs)
      ∙ ap (λ es. es ++ events_of j (brought j pairs)) none)) mine)
  | inr other ↦
      let none_k : events_of k (brought j pairs) ≡ [] =
      rw other ((own-adds j pairs).apart k other) in
      subst IsRun (sym (events_of-append k events (brought j pairs)
      ∙ ap (λ es. events_of k events ++ es) none_k
      ∙ append-nil (events_of k events))) (history k)
]
  where
    mine : IsRun (events_of j (brought j pairs))
    mine = rw (eq-eqb j j refl)
        (subst IsInside (sym (own-adds j pairs).mine) (own-adds j pairs).inside)
