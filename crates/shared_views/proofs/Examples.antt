-- A history of two runs that interleave.
use Rattle.std.proofs.Common.{◌≡◌, ℕ, ◌==◌, false, [], ◌∷◌, refl, ap, subst, inl, inr, append_assoc}
use Rattle.std.proofs.Common.{Some, None}
use Rattle.std.proofs.lemmas.Bool.{cases_Bool, eqb-true}
use Rattle.cache_api.specs.Pairs.{Pair}
use Rattle.shared_views.specs.Histories.{events_of, IsRun, IsHistory, added_by, IsPrefixOf, AddDue}
use Rattle.shared_views.specs.TwoRuns.{two_runs, two_dues, TwoRunsLaw}
use Rattle.shared_views.proofs.Folded.{file-grows}

-- by the number of a run: it is 0, 1, or another
by-run : (P : ℕ → Type 0) → P 0 → P 1 → ((i : ℕ) → (0 == i) ≡ false → (1 == i) ≡ false → P i)
    → (i : ℕ) → P i
by-run P zero_ one other i =
    elim (cases_Bool (0 == i)) [
      | inl e ↦ subst P (eqb-true 0 i e) zero_
      | inr e ↦ elim (cases_Bool (1 == i)) [
        | inl k ↦ subst P
            (eqb-true 1 i k) one
        | inr k ↦ other i e k
      ]
    ]

history : (a b c : Pair) → IsHistory (two_runs a b c)
history a b c = by-run (λ i. IsRun (events_of i (two_runs a b c))) tt tt (λ i e k. rw (e, k) tt)

due : (a b c d : Pair) → AddDue (two_dues a b c d) (two_runs a b c)
due a b c d = by-run (λ i. IsPrefixOf (added_by i (two_runs a b c)) (two_dues a b c d i)) ([], refl)
    (d ∷ [], refl) (λ i e k. (two_dues a b c d i, rw (e, k) refl))

pub example : TwoRunsLaw
example = record {
  history = history;
  due = due;
  file = λ first a b c. file-grows (record { file = first; views = λ i. None }) (two_runs a b c);
  view_of_0 = λ first a b c. ap Some (append_assoc first (a ∷ []) (c ∷ []));
  view_of_1 = λ first a b c. ap Some (append_assoc first (a ∷ []) (b ∷ []));
  look = λ read a b c key outs. refl;
}
