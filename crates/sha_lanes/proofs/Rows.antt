-- Four words of a message, read from its bytes as one vector.
use Rattle.std.proofs.Common.{◌≡◌, ℕ, ◌+◌, ◌*◌, ◌^◌, ◌<◌, ◌≤◌, List, [], ◌∷◌, ◌++◌, length, take, drop, slice_index, slice_index_or, Fits, w8, w32, refl, ap, ◌∙◌, arith}
use Rattle.std.proofs.lemmas.List.{get_or_append_left}
use Rattle.std.proofs.lemmas.Simd.{get_or-chunk, get_or_wider, length-chunk}
use Rattle.std.specs.Int.{from_be_bytes}
use Rattle.std.specs.Simd.Lanes.{Each1, digits_l, number_l, pick_l}
use Rattle.sha2.specs.Sha256.{word_at}
use Rattle.sha_lanes.proofs.Four.{below_four}

-- each four bytes the other way round
abbrev pub swapped : List ℕ → List ℕ
swapped ys = pick_l 0 (ys ++ ys) (3 ∷ 2 ∷ 1 ∷ 0 ∷ 7 ∷ 6 ∷ 5 ∷ 4 ∷ 11 ∷ 10 ∷ 9 ∷ 8 ∷ 15 ∷ 14 ∷ 13 ∷ 12 ∷ [])

word_of : (a b c d : ℕ) → number_l 256 (d ∷ c ∷ b ∷ a ∷ []) ≡ from_be_bytes w32 (a ∷ b ∷ c ∷ d ∷ [])
word_of a b c d = omega arith

module _ (bytes : List ℕ) (at : ℕ) (room : at + 16 ≤ length bytes) (fits : (i : ℕ) → Fits w8 (slice_index_or bytes i 0)) where
  abbrev ys : List ℕ
  ys = take 16 (drop at bytes)

  byte_is : (i p : ℕ) → i < 16 → at + i ≡ p → slice_index_or (ys ++ ys) i 0 ≡ slice_index bytes p
  byte_is i p lt e =
      let l : length ys ≡ 16 = length-chunk at 16 bytes room in
      get_or_append_left ys ys 0 i (omega arith) ∙ get_or-chunk at 16 bytes i 0 lt ∙ ap (slice_index bytes) e

  byte_below : (i : ℕ) → i < 16 → slice_index_or (ys ++ ys) i 0 < 256
  byte_below i lt = let f = (fits (at + i)).fits in rw (byte_is i (at + i) lt refl) f

  bytes_below : Each1 (λ x. x < 256) (swapped ys)
  bytes_below = (
    byte_below 3 (omega arith),
    (
      byte_below 2 (omega arith),
      (
        byte_below 1 (omega arith),
        (
          byte_below 0 (omega arith),
          (
            byte_below 7 (omega arith),
            (
              byte_below 6 (omega arith),
              (
                byte_below 5 (omega arith),
                (
                  byte_below 4 (omega arith),
                  (
                    byte_below 11 (omega arith),
                    (
                      byte_below 10 (omega arith),
                      (
                        byte_below 9 (omega arith),
                        (
                          byte_below 8 (omega arith),
                          (
                            byte_below 15 (omega arith),
                            (byte_below 14 (omega arith), (byte_below 13 (omega arith), (byte_below 12 (omega arith), tt))),
                          ),
                        ),
                      ),
                    ),
                  ),
                ),
              ),
            ),
          ),
        ),
      ),
    ),
  )

  pub row_words : (k : ℕ) → k < 4 → slice_index (digits_l (2 ^ 32) 4 (number_l 256 (swapped ys))) k ≡ word_at bytes (at + 4 * k)
  row_words = below_four _
      (get_or_wider 256 4 (2 ^ 32) 4 (swapped ys) 0 refl bytes_below (omega arith)
      ∙ rw (byte_is 0 (at + 0) (omega arith) (omega arith), byte_is 1 (at + 0 + 1) (omega arith) (omega arith), byte_is 2 (at + 0 + 2) (omega arith) (omega arith), byte_is 3 (at + 0 + 3) (omega arith) (omega arith)) (word_of _ _ _ _))
      (get_or_wider 256 4 (2 ^ 32) 4 (swapped ys) 1 refl bytes_below (omega arith)
      ∙ rw (byte_is 4 (at + 4) (omega arith) (omega arith), byte_is 5 (at + 4 + 1) (omega arith) (omega arith), byte_is 6 (at + 4 + 2) (omega arith) (omega arith), byte_is 7 (at + 4 + 3) (omega arith) (omega arith)) (word_of _ _ _ _))
      (get_or_wider 256 4 (2 ^ 32) 4 (swapped ys) 2 refl bytes_below (omega arith)
      ∙ rw (byte_is 8 (at + 8) (omega arith) (omega arith), byte_is 9 (at + 8 + 1) (omega arith) (omega arith), byte_is 10 (at + 8 + 2) (omega arith) (omega arith), byte_is 11 (at + 8 + 3) (omega arith) (omega arith)) (word_of _ _ _ _))
      (get_or_wider 256 4 (2 ^ 32) 4 (swapped ys) 3 refl bytes_below (omega arith)
      ∙ rw (byte_is 12 (at + 12) (omega arith) (omega arith), byte_is 13 (at + 12 + 1) (omega arith) (omega arith), byte_is 14 (at + 12 + 2) (omega arith) (omega arith), byte_is 15 (at + 12 + 3) (omega arith) (omega arith)) (word_of _ _ _ _))
