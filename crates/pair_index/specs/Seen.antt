-- Which pairs of a log a look-up is to see.
use Rattle.std.specs.Prelude.{ℕ, ◌+◌, Bool, ◌||◌, if◌then◌else◌, nat_lt, List, [], ◌∷◌}
use Rattle.pair_reader.specs.Answers.{is_among}
use Rattle.pair_index.specs.declared.seen.SeenPairs.{SeenPairs}

-- the pair with that number is seen
abbrev pub is_seen : SeenPairs → ℕ → Bool
is_seen seen number = nat_lt number seen.first || is_among seen.own number

-- those of a list whose numbers pass a test, where the first has that number
abbrev pub numbered : {A : Type 0} → (ℕ → Bool) → ℕ → List A → List A
numbered test n [] = []
numbered test n (x ∷ xs) =
    if test n then x ∷ numbered test (n + 1) xs else numbered test (n + 1) xs

-- those that are seen of all pairs, or of what stands beside these
abbrev pub seen_pairs : {A : Type 0} → SeenPairs → List A → List A
seen_pairs seen xs = numbered (is_seen seen) 0 xs
