-- A text that is under way in a lane.
use Rattle.std.specs.Prelude.{◌≡◌, ◌≢◌, ℕ, ◌+◌, ◌-◌, ◌*◌, ◌/◌, ◌%◌, ◌<◌, ◌≤◌, List, [], length, take, drop, map, slice_index, slice_index_or}
use Rattle.sha2.specs.Sha256.{hash_after, initial_hash_256, padded_message, sha256}
use Rattle.sha_lanes.specs.declared.lane.Lane.{Lane}

-- how many blocks a padded text of so many bytes has
abbrev pub blocks_of : ℕ → ℕ
blocks_of bytes = (bytes + 8) / 64 + 1

-- the blocks of the padded text after the last whole one of the text
abbrev pub last_blocks : List ℕ → List ℕ
last_blocks text = drop (length text / 64 * 64) (padded_message text)

-- the lane has taken in the blocks that are done
pub record IsUnderWay (text : List ℕ) (l : Lane) : Type 0 where
  pub blocks : l.blocks ≡ blocks_of (length text)
  pub within : l.done ≤ l.blocks
  pub state : l.state ≡ hash_after initial_hash_256 (padded_message text) l.done
  pub tail : take ((l.blocks - length text / 64) * 64) l.tail ≡ last_blocks text

-- the bytes are whole blocks, the next ones of the padded text
pub record IsNext (text : List ℕ) (done : ℕ) (bytes : List ℕ) : Type 0 where
  pub next : bytes ≡ take (length bytes) (drop (done * 64) (padded_message text))
  pub whole : length bytes % 64 ≡ 0
  pub within : done * 64 + length bytes ≤ blocks_of (length text) * 64

-- the lane has one of the texts
pub record IsLaneOf (texts : List (List ℕ)) (l : Lane) : Type 0 where
  pub place : l.place < length texts
  pub text : IsUnderWay (slice_index_or texts l.place []) l

-- the places of the texts in the lanes
abbrev pub places_of : List Lane → List ℕ
places_of lanes = map (λ l. l.place) lanes

-- how many blocks each lane has left
abbrev pub lefts_of : List Lane → List ℕ
lefts_of lanes = map (λ l. l.blocks - l.done) lanes

-- the digests of the first n texts are found, but for those in the lanes from j on
abbrev pub IsFoundBut : List (List ℕ) → List (List ℕ) → List ℕ → ℕ → ℕ → Type 0
IsFoundBut texts found places j n = (k : ℕ) → k < n → ((i : ℕ) → j ≤ i → i < 4 → slice_index places i ≢ k)
    → slice_index_or found k [] ≡ sha256 (slice_index_or texts k [])

-- the digests of the first n texts are found
abbrev pub HasDigests : List (List ℕ) → List (List ℕ) → ℕ → Type 0
HasDigests texts found n = (k : ℕ) → k < n → slice_index_or found k [] ≡ sha256 (slice_index_or texts k [])
