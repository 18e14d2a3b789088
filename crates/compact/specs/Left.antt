-- What opening and compacting stores leave of them.
use Rattle.std.specs.Prelude.{◌≡◌, ◌⊎◌, ◌<◌, ◌+◌, ℕ, List, length, Option, Some, Result, Ok, Err}
use Rattle.store_dev.specs.Device.{Only, LeavesOnly}
use Rattle.store_dev.specs.declared.device.StoreDevice.{Ghosts}
use Rattle.cache_api.specs.Pairs.{Pair}
use Rattle.record_log.specs.Frames.{reading, IsSound, ReadsAsOneOf}
use Rattle.artifact_store.specs.Pairs.{told_as}
use Rattle.compact.specs.declared.error.CompactErr.{CompactErr}
use Rattle.compact.specs.declared.error.CompactErr.TheVariants.{NoRoom, LastGeneration}
use Rattle.compact.specs.declared.kept.Kept.{Kept}
use Rattle.compact.specs.Chosen.{chosen}
use Rattle.compact.specs.Current.{generation_in, pairs_held}

-- ---- bytes

-- they are a store of that generation, which stands for these pairs
abbrev pub IsStoreOf : ℕ → List Pair → List ℕ → Type 0
IsStoreOf generation pairs bytes = told_as generation bytes ≡ Some pairs

-- they have the frames that those have
abbrev pub ReadsAs : List ℕ → List ℕ → Type 0
ReadsAs bytes c = reading c ≡ reading bytes

-- they are a store of that generation, or one that tells none
pub record IsUnsealed (was : ℕ) (bytes : List ℕ) : Type 0 where
  pub sound : IsSound bytes
  pub generation : (generation_in bytes ≡ was) ⊎ (generation_in bytes ≡ 0)

-- those of a spare store while it is renewed: it has the generation that it had or none, or the
-- new one and these pairs
abbrev pub IsRenewing : ℕ → ℕ → List Pair → List ℕ → Type 0
IsRenewing was generation pairs bytes = IsUnsealed was bytes ⊎ IsStoreOf generation pairs bytes

-- what compaction keeps of a store with these bytes, and the generation behind its own
abbrev pub chosen_in : List ℕ → Option ℕ → List Pair
chosen_in bytes keep = chosen (pairs_held bytes) keep

abbrev pub next_generation : List ℕ → ℕ
next_generation bytes = generation_in bytes + 1

-- ---- devices

-- it holds a store, and a crash leaves it as it reads
pub record Rests {S : Type 0} (G : Ghosts S) (device : S) : Type 0 where
  pub sound : IsSound (G.content device)
  pub alone : Only (G.content device) (G.images device)

-- the same, and it has the frames that it had
pub record StillRests {S : Type 0} (G : Ghosts S) (old new : S) : Type 0 where
  pub reads : reading (G.content new) ≡ reading (G.content old)
  pub rests : Rests G new

-- it holds that store alone
pub record RestsAs {S : Type 0} (G : Ghosts S) (generation : ℕ) (pairs : List Pair) (device : S)
    : Type 0 where
  pub rests : Rests G device
  pub is : IsStoreOf generation pairs (G.content device)

-- What the opening of a device leaves, whatever is answered: each image since then has the frames
-- of one that there was, and the bytes stay, but at most nine may become an empty store.
pub record IsReread {S : Type 0} (G : Ghosts S) (old new : S) : Type 0 where
  pub images : LeavesOnly G.moment G.images_since old new (ReadsAsOneOf (G.images old))
  pub same : 9 < length (G.content old) → G.content new ≡ G.content old

-- ---- the answer of compaction

-- how many pairs were kept, of how many
pub record IsCountIn (pairs : List Pair) (keep : Option ℕ) (counts : Kept) : Type 0 where
  pub kept : counts.kept ≡ length (chosen pairs keep)
  pub before : counts.before ≡ length pairs

abbrev pub IsCountOf : List ℕ → Option ℕ → Kept → Type 0
IsCountOf bytes keep counts = IsCountIn (pairs_held bytes) keep counts

-- the old pairs or the new ones
abbrev pub IsEither : List Pair → List Pair → Option (List Pair) → Type 0
IsEither old new pairs = (pairs ≡ Some old) ⊎ (pairs ≡ Some new)

-- the new ones after it was done, and the old ones after it was refused
abbrev pub IsAfter : Result Kept CompactErr → List Pair → List Pair → Option (List Pair) → Type 0
IsAfter (Ok _) old new pairs = pairs ≡ Some new
IsAfter (Err (NoRoom need free)) old new pairs = pairs ≡ Some old
IsAfter (Err LastGeneration) old new pairs = pairs ≡ Some old
IsAfter (Err _) old new pairs = IsEither old new pairs
