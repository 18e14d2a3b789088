-- What holds of each of four lanes.
use Rattle.std.proofs.Common.{ℕ, zero, suc, ◌≡◌, ◌<◌, List, [], ◌∷◌, length, ◌++◌, ◌+◌, ◌-◌, ◌∙◌, ap, slice_index, slice_index_or, refl, arith}
use Rattle.std.proofs.lemmas.List.{get_or_append_left, get_or-append_right}

pub below_four : (P : ℕ → Type 0) → P 0 → P 1 → P 2 → P 3 → (j : ℕ) → j < 4 → P j
below_four P p0 p1 p2 p3 zero h = p0
below_four P p0 p1 p2 p3 (suc zero) h = p1
below_four P p0 p1 p2 p3 (suc (suc zero)) h = p2
below_four P p0 p1 p2 p3 (suc (suc (suc zero))) h = p3
below_four P p0 p1 p2 p3 (suc (suc (suc (suc n)))) h = absurd (omega arith)

-- what holds of each list of four elements
pub four_lanes : (P : List ℕ → Type 0) → ((a b c d : ℕ) → P (a ∷ b ∷ c ∷ d ∷ [])) → (xs : List ℕ) → length xs ≡ 4 → P xs
four_lanes P p (a ∷ b ∷ c ∷ d ∷ []) h = p a b c d
four_lanes P p [] h = absurd (omega arith)
four_lanes P p (a ∷ []) h = absurd (omega arith)
four_lanes P p (a ∷ b ∷ []) h = absurd (omega arith)
four_lanes P p (a ∷ b ∷ c ∷ []) h = absurd (omega arith)
four_lanes P p (a ∷ b ∷ c ∷ d ∷ e ∷ xs) h = absurd (omega arith)

-- a list of four elements, by its elements
pub four_is : (xs : List ℕ) → length xs ≡ 4 → xs ≡ slice_index xs 0 ∷ slice_index xs 1 ∷ slice_index xs 2 ∷ slice_index xs 3 ∷ []
four_is = four_lanes _ (λ a b c d. refl)

-- what holds of each lane of each of four vectors
pub four_by_four : (P : ℕ → ℕ → Type 0) → P 0 0 → P 0 1 → P 0 2 → P 0 3 → P 1 0 → P 1 1 → P 1 2 → P 1 3
    → P 2 0 → P 2 1 → P 2 2 → P 2 3 → P 3 0 → P 3 1 → P 3 2 → P 3 3 → (j k : ℕ) → j < 4 → k < 4 → P j k
four_by_four P a0 a1 a2 a3 b0 b1 b2 b3 c0 c1 c2 c3 d0 d1 d2 d3 j k lj lk =
    below_four (λ row. P row k) (below_four (P 0) a0 a1 a2 a3 k lk) (below_four (P 1) b0 b1 b2 b3 k lk)
    (below_four (P 2) c0 c1 c2 c3 k lk) (below_four (P 3) d0 d1 d2 d3 k lk) j lj

-- the lanes of two vectors, one after the other
pub first_of : (xs ys : List ℕ) → length xs ≡ 4 → (k : ℕ) → k < 4 → slice_index_or (xs ++ ys) k 0 ≡ slice_index xs k
first_of xs ys long k lt = get_or_append_left xs ys 0 k (omega arith)

pub second_of : (xs ys : List ℕ) → length xs ≡ 4 → (i k : ℕ) → i ≡ k + 4 → slice_index_or (xs ++ ys) i 0 ≡ slice_index ys k
second_of xs ys long i k e =
    let place : i - 4 ≡ k = omega arith in
    get_or-append_right xs ys 4 i 0 long (omega arith) ∙ ap (slice_index ys) place
