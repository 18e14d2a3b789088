-- Four messages side by side: each word of theirs is a vector, with one lane for each message.
use Rattle.std.specs.Prelude.{◌≡◌, ℕ, ◌<◌, List, [], ◌∷◌, take, drop, slice_index, slice_index_or}

-- lane j of vector k
abbrev pub lane_at : List (List ℕ) → ℕ → ℕ → ℕ
lane_at vectors k j = slice_index (slice_index_or vectors k []) j

-- the eight words of message j
abbrev pub lane : ℕ → List (List ℕ) → List ℕ
lane j vectors =
    lane_at vectors 0 j ∷ lane_at vectors 1 j ∷ lane_at vectors 2 j ∷ lane_at vectors 3 j
    ∷ lane_at vectors 4 j ∷ lane_at vectors 5 j ∷ lane_at vectors 6 j ∷ lane_at vectors 7 j ∷ []

-- the first n vectors have the first n of the words in lane j
abbrev pub HasWords : List (List ℕ) → ℕ → List ℕ → ℕ → Type 0
HasWords vectors j words n = (k : ℕ) → k < n → lane_at vectors k j ≡ slice_index words k

-- the block of 64 bytes from a place on
abbrev pub block_at : List ℕ → ℕ → List ℕ
block_at bytes at = take 64 (drop at bytes)
