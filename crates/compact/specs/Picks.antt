-- Pairs by their numbers.
use Rattle.std.specs.Prelude.{◌≡◌, ◌≢◌, ◌⊎◌, ◌<◌, ℕ, Bool, true, false, nat_le, if◌then◌else◌}
use Rattle.std.specs.Prelude.{List, [], ◌∷◌, length, map, reverse, get_or, slice_get, All, Option, Some}
use Rattle.std.specs.Option.{option_map_or}
use Rattle.sha2.specs.Sha256.{sha256}
use Rattle.store_dev.specs.declared.device.StoreDevice.{Ghosts}
use Rattle.cache_api.specs.Artifacts.{artifact}
use Rattle.cache_api.specs.Pairs.{Pair, pair_for}
use Rattle.artifact_store.specs.declared.store.Store.{Store}
use Rattle.artifact_store.specs.Store.{state_of, count_in}
use Rattle.compact.specs.Chosen.{is_useful, has_key}
use Rattle.compact.specs.Quick.{quick_print}
use Rattle.compact.specs.declared.picks.Picks.{Picks}
use Rattle.compact.specs.declared.held.Held.{Held}

-- the pair with that number
abbrev pub pair_of : List Pair → ℕ → Pair
pair_of pairs number = get_or pairs number ([], [])

abbrev pub pairs_at : List Pair → List ℕ → List Pair
pairs_at pairs numbers = map (pair_of pairs) numbers

-- the value of each is an artifact
abbrev pub AreUseful : List Pair → Type 0
AreUseful pairs = All (λ pair. is_useful pair ≡ true) pairs

-- those that were picked, the last first, in their order
abbrev pub picked : List Pair → List ℕ → List Pair
picked pairs numbers = reverse (pairs_at pairs numbers)

-- those that are worth keeping with one in front that was looked at
abbrev pub picked_with : Pair → List Pair → List Pair
picked_with pair kept =
    if is_useful pair then (if has_key pair.0 kept then kept else pair ∷ kept) else kept

-- the key of the one with that place among the numbers
abbrev pub key_at : List Pair → List ℕ → ℕ → List ℕ
key_at pairs numbers place = (pair_of pairs (get_or numbers place 0)).0

-- the digest is one of these
abbrev pub Stands : List (List ℕ) → List ℕ → Type 0
Stands digests digest = (place : ℕ) × (slice_get digests place ≡ Some digest)

-- A key has its quick print among the digests, or its SHA-256 where that stands there already.
abbrev pub IsDigestOf : List (List ℕ) → List ℕ → List ℕ → Type 0
IsDigestOf digests key digest =
    (digest ≡ quick_print key) ⊎ ((digest ≡ sha256 key) × Stands digests (quick_print key))

-- no pair with that digest has the key
abbrev pub IsApartAt : List Pair → List ℕ → List (List ℕ) → List ℕ → List ℕ → Type 0
IsApartAt pairs numbers digests digest key = (place : ℕ) → place < length numbers
    → slice_get digests place ≡ Some digest → key_at pairs numbers place ≢ key

-- they are pairs of the store, each with a digest of its key
pub record ArePicks {S : Type 0} {G : Ghosts S} (store : Store S G) (picks : Picks) : Type 0 where
  pub even : length picks.prints.digests ≡ length picks.numbers.items
  pub below : All (λ number. number < count_in store) picks.numbers.items
  pub prints : G.tells → (place : ℕ) → place < length picks.numbers.items
      → IsDigestOf picks.prints.digests
      (key_at (state_of store).pairs picks.numbers.items place)
      (get_or picks.prints.digests place [])

-- so many are enough
abbrev pub is_enough : Option ℕ → ℕ → Bool
is_enough keep count = option_map_or (λ most. nat_le most count) keep false

-- ---- pairs in memory

abbrev pub held_pair : Held → Pair
held_pair held = pair_for held.key (artifact held.artifact)

abbrev pub held_pairs : List Held → List Pair
held_pairs all = map held_pair all
