-- How often a look-up may read a log.
use Rattle.std.specs.Prelude.{ℕ, ◌+◌, Bool, if◌then◌else◌, nat_eq, bytes_eq, List, [], ◌∷◌, map, length, get_or}
use Rattle.sha2.specs.Sha256.{sha256}
use Rattle.cache_api.specs.Memory.{capped}
use Rattle.cache_api.specs.Pairs.{Pair}
use Rattle.record_log.specs.Kinds.{Entry}
use Rattle.pair_frames.specs.Pairs.{pairs_in}
use Rattle.pair_frames.specs.Reading.{record_places}
use Rattle.pair_reader.specs.declared.wanted.Lengths.{Lengths}
use Rattle.pair_reader.specs.Frames as frame
use Rattle.pair_index.specs.Keys.{len_of, print_of, is_sought_by_print}
use Rattle.pair_index.specs.declared.seen.SeenPairs.{SeenPairs}
use Rattle.pair_index.specs.Seen.{seen_pairs}

-- whether a look-up of a key reads a pair: by the fingerprints of both keys, or by their lengths
abbrev pub reads_pair : Bool → List ℕ → Pair → Bool
reads_pair by key pair =
    if by then bytes_eq (print_of pair) (sha256 key) else nat_eq (len_of pair) (capped (length key))

-- the sum of what stands beside those of these pairs that pass a test
abbrev pub sum_where : (Pair → Bool) → List ℕ → List Pair → ℕ
sum_where test [] pairs = 0
sum_where test (n ∷ ns) [] = 0
sum_where test (n ∷ ns) (pair ∷ pairs) = (if test pair then n else 0) + sum_where test ns pairs

-- what the frame of each pair costs
abbrev pub costs_in : (List Entry → ℕ → ℕ) → List Entry → List ℕ
costs_in cost fs = map (cost fs) (record_places 0 fs)

-- that of the pair with that number
abbrev pub cost_at : (List Entry → ℕ → ℕ) → List Entry → ℕ → ℕ
cost_at cost fs number = get_or (costs_in cost fs) number 0

-- the sum of these over the pairs that a look-up reads
abbrev pub sum_of : (List Entry → ℕ → ℕ) → Lengths → List Entry → List ℕ → ℕ
sum_of cost lengths fs key =
    sum_where (reads_pair (is_sought_by_print lengths key) key) (costs_in cost fs) (pairs_in fs)

-- and over those of them that are seen
abbrev pub sum_seen : (List Entry → ℕ → ℕ) → SeenPairs → Lengths → List Entry → List ℕ → ℕ
sum_seen cost seen lengths fs key =
    sum_where (reads_pair (is_sought_by_print lengths key) key) (seen_pairs seen (costs_in cost fs))
    (seen_pairs seen (pairs_in fs))

-- the reads of a look-up, and of all that it found
unfoldable pub cost_of : Lengths → List Entry → List ℕ → ℕ
cost_of lengths fs key = sum_of frame.cost_of lengths fs key

unfoldable pub cost_seen : SeenPairs → Lengths → List Entry → List ℕ → ℕ
cost_seen seen lengths fs key = sum_seen frame.cost_of seen lengths fs key

-- the reads of a look-up alone
unfoldable pub reads_of : Lengths → List Entry → List ℕ → ℕ
reads_of lengths fs key = sum_of frame.reads_of lengths fs key

unfoldable pub reads_seen : SeenPairs → Lengths → List Entry → List ℕ → ℕ
reads_seen seen lengths fs key = sum_seen frame.reads_of seen lengths fs key
