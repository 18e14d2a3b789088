-- `pick` and `rank`: what is picked stands at its rank.
use Rattle.std.proofs.Common.{◌≡◌, ℕ, zero, suc, ◌<◌, ◌≤◌, ◌==◌, le_trans, Bool, true, false, cond, List, [], ◌∷◌, ◌++◌, map, length, get_or, slice_get, refl, sym, ap, ◌∙◌, arith, inl, inr}
use Rattle.std.proofs.lemmas.Bool.{cases_Bool, cases_eq, cases_order, eq-eqb, ne_eqb}
use Rattle.run_laws.specs.Picks.{pick, rank}

abbrev pub shift : (ℕ → Bool) → ℕ → Bool
shift keep = λ i. keep (suc i)

pub rank-true : (keep : ℕ → Bool) (i : ℕ) → keep zero ≡ true → rank keep (suc i) ≡ suc (rank (shift keep) i)
rank-true keep zero h = rw h
rank-true keep (suc i) h =
    elim (keep (suc i)) as (λ b. cond b (suc (rank keep (suc i))) (rank keep (suc i)) ≡ suc (cond b (suc (rank (shift keep) i)) (rank (shift keep) i)))
    [ true ↦ ap suc (rank-true keep i h) | false ↦ rank-true keep i h ]

pub rank-false : (keep : ℕ → Bool) (i : ℕ) → keep zero ≡ false → rank keep (suc i) ≡ rank (shift keep) i
rank-false keep zero h = rw h
rank-false keep (suc i) h =
    elim (keep (suc i)) as (λ b. cond b (suc (rank keep (suc i))) (rank keep (suc i)) ≡ cond b (suc (rank (shift keep) i)) (rank (shift keep) i))
    [ true ↦ ap suc (rank-false keep i h) | false ↦ rank-false keep i h ]

pub rank-le : (keep : ℕ → Bool) (i : ℕ) → rank keep i ≤ i
rank-le keep zero = omega arith
rank-le keep (suc i) = elim (keep i) as (λ b. cond b (suc (rank keep i)) (rank keep i) ≤ suc i) [ true ↦ omega (arith, rank-le keep i) | false ↦ omega (arith, rank-le keep i) ]

pub rank-up : (keep : ℕ → Bool) (i : ℕ) → rank keep i ≤ rank keep (suc i)
rank-up keep i = elim (keep i) as (λ b. rank keep i ≤ cond b (suc (rank keep i)) (rank keep i)) [ true ↦ omega arith | false ↦ omega arith ]

pub rank-mono : (keep : ℕ → Bool) (i j : ℕ) → i ≤ j → rank keep i ≤ rank keep j
rank-mono keep i zero l = let e : i ≡ zero = omega arith in rw e (omega arith)
rank-mono keep i (suc j) l =
    elim (cases_eq i (suc j)) [
      | inl e ↦ rw e (omega arith)
      | inr n ↦ let k : i ≤ j = omega arith in le_trans (rank-mono keep i j k) (rank-up keep j)
    ]

pub rank-kept : (keep : ℕ → Bool) (i : ℕ) → keep i ≡ true → rank keep (suc i) ≡ suc (rank keep i)
rank-kept keep i h = rw h

pub rank-left : (keep : ℕ → Bool) (i : ℕ) → keep i ≡ false → rank keep (suc i) ≡ rank keep i
rank-left keep i h = rw h

-- a kept place has a lower number than any place above it
pub rank-lt : (keep : ℕ → Bool) (i j : ℕ) → keep i ≡ true → i < j → rank keep i < rank keep j
rank-lt keep i j h l = let m : rank keep (suc i) ≤ rank keep j = rank-mono keep (suc i) j l in rw (rank-kept keep i h) at m

-- kept places with one number are one
pub rank-same : (keep : ℕ → Bool) (i j : ℕ) → keep i ≡ true → keep j ≡ true → (rank keep i == rank keep j) ≡ (i == j)
rank-same keep i j hi hj =
    elim (cases_order i j) [
      | inl e ↦ eq-eqb _ _ (ap (rank keep) e) ∙ sym (eq-eqb i j e)
      | inr w ↦ elim w [
        | inl l ↦ ne_eqb _ _ (let k = rank-lt keep i j hi l in λ e. omega (arith, k, e)) ∙ sym (ne_eqb i j (λ e. omega (arith, l, e)))
        | inr l ↦ ne_eqb _ _ (let k = rank-lt keep j i hj l in λ e. omega (arith, k, e)) ∙ sym (ne_eqb i j (λ e. omega (arith, l, e)))
      ]
    ]

pub get-pick : {X : Type 0} (keep : ℕ → Bool) (xs : List X) (i : ℕ) → keep i ≡ true → slice_get (pick keep xs) (rank keep i) ≡ slice_get xs i
get-pick keep [] i h = refl
get-pick keep (x ∷ xs) zero h = rw h
get-pick keep (x ∷ xs) (suc i) h =
    elim (cases_Bool (keep zero)) [
      | inl t ↦ rw (rank-true keep i t, t) (get-pick (shift keep) xs i h)
      | inr f ↦ rw (rank-false keep i f, f) (get-pick (shift keep) xs i h)
    ]

pub get_or-pick : {X : Type 0} (keep : ℕ → Bool) (xs : List X) (i : ℕ) (d : X) → keep i ≡ true → get_or (pick keep xs) (rank keep i) d ≡ get_or xs i d
get_or-pick keep [] i d h = refl
get_or-pick keep (x ∷ xs) zero d h = rw h
get_or-pick keep (x ∷ xs) (suc i) d h =
    elim (cases_Bool (keep zero)) [
      | inl t ↦ rw (rank-true keep i t, t) (get_or-pick (shift keep) xs i d h)
      | inr f ↦ rw (rank-false keep i f, f) (get_or-pick (shift keep) xs i d h)
    ]

pub length-pick : {X : Type 0} (keep : ℕ → Bool) (xs : List X) → length (pick keep xs) ≡ rank keep (length xs)
length-pick keep [] = refl
length-pick keep (x ∷ xs) =
    elim (cases_Bool (keep zero)) [
      | inl t ↦ rw (rank-true keep (length xs) t, t) (ap suc (length-pick (shift keep) xs))
      | inr f ↦ rw (rank-false keep (length xs) f, f) (length-pick (shift keep) xs)
    ]

pub pick-push_kept : {X : Type 0} (keep : ℕ → Bool) (xs : List X) (x : X) → keep (length xs) ≡ true → pick keep (xs ++ x ∷ []) ≡ pick keep xs ++ x ∷ []
pick-push_kept keep [] x h = rw h
pick-push_kept keep (y ∷ xs) x h =
    elim (keep zero) as (λ b. cond b (y ∷ pick (shift keep) (xs ++ x ∷ [])) (pick (shift keep) (xs ++ x ∷ [])) ≡ cond b (y ∷ pick (shift keep) xs) (pick (shift keep) xs) ++ x ∷ [])
    [ true ↦ ap (λ ys. y ∷ ys) (pick-push_kept (shift keep) xs x h) | false ↦ pick-push_kept (shift keep) xs x h ]

pub pick-push_left : {X : Type 0} (keep : ℕ → Bool) (xs : List X) (x : X) → keep (length xs) ≡ false → pick keep (xs ++ x ∷ []) ≡ pick keep xs
pick-push_left keep [] x h = rw h
pick-push_left keep (y ∷ xs) x h =
    elim (keep zero) as (λ b. cond b (y ∷ pick (shift keep) (xs ++ x ∷ [])) (pick (shift keep) (xs ++ x ∷ [])) ≡ cond b (y ∷ pick (shift keep) xs) (pick (shift keep) xs))
    [ true ↦ ap (λ ys. y ∷ ys) (pick-push_left (shift keep) xs x h) | false ↦ pick-push_left (shift keep) xs x h ]

-- a pick of a pick
pub pick-pick : {X : Type 0} (keep p q : ℕ → Bool) → ((j : ℕ) → keep j ≡ true → p (rank keep j) ≡ q j) → ((j : ℕ) → keep j ≡ false → q j ≡ false) → (xs : List X) → pick p (pick keep xs) ≡ pick q xs
pick-pick keep p q agree out [] = refl
pick-pick keep p q agree out (x ∷ xs) =
    elim (cases_Bool (keep zero)) [
      | inl t ↦
          let e = pick-pick (shift keep) (shift p) (shift q) (λ j k. ap p (sym (rank-true keep j t)) ∙ agree (suc j) k) (λ j k. out (suc j) k) xs in
          rw (t, agree zero t) (ap (λ ys. cond (q zero) (x ∷ ys) ys) e)
      | inr f ↦
          let e = pick-pick (shift keep) p (shift q) (λ j k. ap p (sym (rank-false keep j f)) ∙ agree (suc j) k) (λ j k. out (suc j) k) xs in
          rw (f, out zero f) e
    ]

pub map-pick : {X Y : Type 0} (f : X → Y) (keep : ℕ → Bool) (xs : List X) → map f (pick keep xs) ≡ pick keep (map f xs)
map-pick f keep [] = refl
map-pick f keep (x ∷ xs) = elim (keep zero) as (λ b. map f (cond b (x ∷ pick (shift keep) xs) (pick (shift keep) xs)) ≡ cond b (f x ∷ pick (shift keep) (map f xs)) (pick (shift keep) (map f xs)))
    [ true ↦ ap (λ ys. f x ∷ ys) (map-pick f (shift keep) xs) | false ↦ map-pick f (shift keep) xs ]
