-- One more dependent that is served or left.
use Rattle.std.proofs.Common.{◌≡◌, ℕ, ◌+◌, ◌<◌, ◌==◌, Bool, true, false, cond, not, ◌&&◌, ◌||◌, List, length, take, get_or, refl, ◌∙◌, arith, inl, inr}
use Rattle.std.proofs.lemmas.Bool.{cases_Bool, ne_eqb}
use Rattle.run_core.specs.declared.states.State.{State}
use Rattle.run_core.specs.declared.states.State.TheVariants.{Left}
use Rattle.run_core.specs.Tables.{is_in, times, is_left}
use Rattle.run_core.proofs.Members.{in-more, times-more}

pub served-counts : (xs : List ℕ) (i : ℕ) → i < length xs → (start old new : ℕ → ℕ) → ((u : ℕ) → old u + times u (take i xs) ≡ start u) → ((u : ℕ) → new u + cond (u == get_or xs i 0) 1 0 ≡ old u)
    → (u : ℕ) → new u + times u (take (i + 1) xs) ≡ start u
served-counts xs i l start old new before step u = omega (arith, times-more u xs i l, before u, step u)

pub served-ready : (xs : List ℕ) (i : ℕ) → i < length xs → (old new : ℕ → ℕ) → ((u : ℕ) → new u + cond (u == get_or xs i 0) 1 0 ≡ old u) → (waits first before after : ℕ → Bool)
    → ((u : ℕ) → before u ≡ (first u || (is_in u (take i xs) && (waits u && (old u == 0)))))
    → ((u : ℕ) → after u ≡ (before u || ((u == get_or xs i 0) && (waits u && (new u == 0)))))
    → (u : ℕ) → after u ≡ (first u || (is_in u (take (i + 1) xs) && (waits u && (new u == 0))))
served-ready xs i l old new counts waits first before after was is u =
    is u ∙ rw (was u, in-more u xs i l)
    (elim (cases_Bool (u == get_or xs i 0)) [
      | inl e ↦ let one : new u + 1 ≡ old u = rw e at (counts u) in let more : (old u == 0) ≡ false = ne_eqb (old u) 0 (λ z. omega (arith, one, z)) in rw (e, more) (here (first u) (is_in u (take i xs)) (waits u) (new u == 0))
      | inr f ↦ let same : new u + 0 ≡ old u = rw f at (counts u) in let e : old u ≡ new u = omega (arith, same) in rw (f, e) (there (first u) (is_in u (take i xs)) (waits u) (new u == 0))
    ])
  where
    here : (r i w z : Bool) → ((r || (i && (w && false))) || (true && (w && z))) ≡ (r || ((i || true) && (w && z)))
    here true i w z = refl
    here false true true z = refl
    here false true false z = refl
    here false false true z = refl
    here false false false z = refl

    there : (r i w z : Bool) → ((r || (i && (w && z))) || (false && (w && z))) ≡ (r || ((i || false) && (w && z)))
    there true i w z = refl
    there false true true true = refl
    there false true true false = refl
    there false true false z = refl
    there false false w z = refl

pub left-states : (xs : List ℕ) (i : ℕ) → i < length xs → (first before after : ℕ → State) → ((u : ℕ) → before u ≡ cond (is_in u (take i xs)) Left (first u)) → ((u : ℕ) → after u ≡ cond (u == get_or xs i 0) Left (before u))
    → (u : ℕ) → after u ≡ cond (is_in u (take (i + 1) xs)) Left (first u)
left-states xs i l first before after was is u = is u ∙ rw (was u, in-more u xs i l) (by (is_in u (take i xs)) (u == get_or xs i 0))
  where
    by : (a b : Bool) → cond b Left (cond a Left (first u)) ≡ cond (a || b) Left (first u)
    by true true = refl
    by true false = refl
    by false true = refl
    by false false = refl

pub left-pending : (xs : List ℕ) (i : ℕ) → i < length xs → (first before : ℕ → State) → ((u : ℕ) → before u ≡ cond (is_in u (take i xs)) Left (first u)) → (none some more : ℕ → Bool)
    → ((u : ℕ) → some u ≡ (none u || (is_in u (take i xs) && not (is_left (first u)))))
    → ((u : ℕ) → more u ≡ (some u || ((u == get_or xs i 0) && not (is_left (before u)))))
    → (u : ℕ) → more u ≡ (none u || (is_in u (take (i + 1) xs) && not (is_left (first u))))
left-pending xs i l first before was none some more had is u = is u ∙ rw (had u, was u, in-more u xs i l) (by (none u) (is_in u (take i xs)) (u == get_or xs i 0))
  where
    by : (p a b : Bool) → ((p || (a && not (is_left (first u)))) || (b && not (is_left (cond a Left (first u))))) ≡ (p || ((a || b) && not (is_left (first u))))
    by true a b = refl
    by false true true = or-off (not (is_left (first u)))
      where
        or-off : (x : Bool) → (x || false) ≡ x
        or-off true = refl
        or-off false = refl
    by false true false = or-off (not (is_left (first u)))
      where
        or-off : (x : Bool) → (x || false) ≡ x
        or-off true = refl
        or-off false = refl
    by false false b = refl
