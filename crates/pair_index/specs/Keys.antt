-- The lengths of the keys of pairs and their fingerprints.
use Rattle.std.specs.Prelude.{◌≡◌, ◌<◌, ℕ, ◌+◌, ◌-◌, min, Bool, true, false, if◌then◌else◌, nat_eq, bytes_eq, List, [], ◌∷◌, map, get_or, length, Option, Some, None, vec_len, vec_capacity}
use Rattle.sha2.specs.Sha256.{sha256}
use Rattle.cache_api.specs.Memory.{capped}
use Rattle.cache_api.specs.Pairs.{Pair}
use Rattle.pair_reader.specs.declared.wanted.Lengths.{Lengths}
use Rattle.pair_reader.specs.Answers.{is_one_of}
use Rattle.pair_index.specs.declared.keys.Keys.{Keys}

-- how long the key of a pair is
abbrev pub len_of : Pair → ℕ
len_of pair = capped (length pair.0)

-- its fingerprint: the SHA-256 (FIPS 180-4)
abbrev pub print_of : Pair → List ℕ
print_of pair = sha256 pair.0

-- whether its fingerprint is kept
abbrev pub is_hashed : Lengths → Pair → Bool
is_hashed lengths pair = is_one_of lengths (len_of pair)

-- the numbers of those of these pairs that pass a test, where the first has that number
abbrev pub numbers_from : (Pair → Bool) → ℕ → List Pair → List ℕ
numbers_from test n [] = []
numbers_from test n (pair ∷ pairs) =
    if test pair then n ∷ numbers_from test (n + 1) pairs else numbers_from test (n + 1) pairs

-- what stands beside those of these pairs that pass a test
abbrev pub picked : {A : Type 0} → (Pair → Bool) → List A → List Pair → List A
picked test [] pairs = []
picked test (x ∷ xs) [] = []
picked test (x ∷ xs) (pair ∷ pairs) =
    if test pair then x ∷ picked test xs pairs else picked test xs pairs

-- these pairs alone
abbrev pub passing : (Pair → Bool) → List Pair → List Pair
passing test pairs = picked test pairs pairs

-- ---- what is kept

abbrev pub lens_in : Keys → List ℕ
lens_in keys = keys.lens.items

abbrev pub numbers_in : Keys → List ℕ
numbers_in keys = keys.hashed.items

abbrev pub prints_in : Keys → List (List ℕ)
prints_in keys = keys.prints.digests

-- how many keys more it can learn with no memory taken
abbrev pub hash_room : Keys → ℕ
hash_room keys = min (vec_capacity keys.hashed - vec_len keys.hashed) keys.prints.room

abbrev pub key_room : Keys → ℕ
key_room keys = min (vec_capacity keys.lens - vec_len keys.lens) (hash_room keys)

-- what a fingerprint that is kept, or none, adds to the numbers and to the fingerprints
abbrev pub number_where : Option (List ℕ) → ℕ → List ℕ
number_where None n = []
number_where (Some print) n = n ∷ []

abbrev pub listed_print : Option (List ℕ) → List (List ℕ)
listed_print None = []
listed_print (Some print) = print ∷ []

-- the keys of these pairs, and of no others
pub record IsKeysOf (keys : Keys) (pairs : List Pair) : Type 0 where
  pub lens : lens_in keys ≡ map len_of pairs
  pub numbers : numbers_in keys ≡ numbers_from (is_hashed keys.lengths) 0 pairs
  pub prints : prints_in keys ≡ map print_of (passing (is_hashed keys.lengths) pairs)

-- ---- a search from the last to the first

-- whether a key is sought by its fingerprint, and else by its length
abbrev pub is_sought_by_print : Lengths → List ℕ → Bool
is_sought_by_print lengths key = is_one_of lengths (capped (length key))

-- how many places there are to look at
abbrev pub place_count : Bool → Keys → ℕ
place_count true keys = length (prints_in keys)
place_count false keys = length (lens_in keys)

-- the number of the pair there
abbrev pub number_at : Bool → Keys → ℕ → ℕ
number_at true keys at = get_or (numbers_in keys) at 0
number_at false keys at = at

-- whether it may have that key
abbrev pub may_have : Bool → Keys → List ℕ → ℕ → Bool
may_have true keys key at = bytes_eq (get_or (prints_in keys) at []) (sha256 key)
may_have false keys key at = nat_eq (get_or (lens_in keys) at 0) (capped (length key))

-- no place below that one may have the key
abbrev pub NoneBelow : Bool → Keys → List ℕ → ℕ → Type 0
NoneBelow by keys key limit = (i : ℕ) → i < limit → may_have by keys key i ≡ false

-- the last place below that one which may have it
pub record IsLastBelow (by : Bool) (keys : Keys) (key : List ℕ) (limit at : ℕ) : Type 0 where
  pub below : at < limit
  pub inside : at < place_count by keys
  pub may : may_have by keys key at ≡ true
  pub later : (i : ℕ) → at < i → i < limit → may_have by keys key i ≡ false

abbrev pub IsBehind : Bool → Keys → List ℕ → ℕ → Option ℕ → Type 0
IsBehind by keys key limit None = NoneBelow by keys key limit
IsBehind by keys key limit (Some at) = IsLastBelow by keys key limit at

-- the last of the first so many lengths that is that one
abbrev pub IsLastWithLen : List ℕ → ℕ → ℕ → Option ℕ → Type 0
IsLastWithLen lens len limit None = (i : ℕ) → i < limit → nat_eq (get_or lens i 0) len ≡ false
IsLastWithLen lens len limit (Some at) =
    (at < limit) × (nat_eq (get_or lens at 0) len ≡ true)
    × ((i : ℕ) → at < i → i < limit → nat_eq (get_or lens i 0) len ≡ false)
