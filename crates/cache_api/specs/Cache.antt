-- What a cache is to its callers, and what its calls leave and answer.
use Rattle.std.specs.Prelude.{◌≡◌, ℕ, ◌+◌, ◌*◌, ◌<◌, ◌≤◌, Bool, true, false, List, [], ◌∷◌, ◌++◌, length, sum_by, Option, Result, Ok, Err}
use Rattle.cache_api.specs.declared.error.CacheErr.{CacheErr}
use Rattle.cache_api.specs.declared.error.CacheErr.TheVariants.{Full, Failed, OutOfMemory}
pub use Rattle.cache_api.specs.declared.room.TheConstants.{ROOM_FOR_A_BYTE, ROOM_BESIDE}
use Rattle.cache_api.specs.declared.puts.Put.{Put}
use Rattle.cache_api.specs.declared.puts.Put.TheVariants as put
use Rattle.cache_api.specs.declared.hit.Hit.{Hit}
use Rattle.cache_api.specs.Artifacts.{Artifact}
use Rattle.cache_api.specs.Pairs.{Pair, due_of, AreFirst, IsPartSince}
use Rattle.cache_api.specs.Moments.{Moment, Leaves}

-- What a cache has: its pairs, in order; how many of the first ones last, which each crash leaves; whether it may be
-- used; how many bytes it may still take, and how many of these whatever others take meanwhile; its count of faults; how
-- often it has read its devices' records; and what its kind keeps as it is.
pub record CacheState (B : Type 0) : Type 0 where
  pub pairs : List Pair
  pub lasting : ℕ
  pub whole : Bool
  pub room : ℕ
  pub sure : ℕ
  pub faults : ℕ
  pub probes : ℕ
  pub base : B

-- what is still due: a crash may leave it or not
abbrev pub due_in : {B : Type 0} → CacheState B → List Pair
due_in state = due_of state.pairs state.lasting

-- nothing is due
abbrev pub AllLast : {B : Type 0} → CacheState B → Type 0
AllLast state = state.lasting ≡ length state.pairs

-- what each call leaves as it is, or makes no greater or no smaller
pub record Keeps {B : Type 0} (old new : CacheState B) : Type 0 where
  pub base : new.base ≡ old.base
  pub room : new.room ≤ old.room
  pub probes : old.probes ≤ new.probes

-- a device failed, which the cache counts
abbrev pub is_fault : CacheErr → Bool
is_fault Failed = true
is_fault _ = false

-- it may be used as before, but after a fault or want of memory, of which nothing is said
abbrev pub StaysWhole : {T : Type 0} → Result T CacheErr → Bool → Bool → Type 0
StaysWhole (Err Failed) before now = Unit {0}
StaysWhole (Err OutOfMemory) before now = Unit {0}
StaysWhole _ before now = now ≡ before

-- a look-up is never refused for want of room
abbrev pub IsFindErr : CacheErr → Type 0
IsFindErr Full = ⊥
IsFindErr _ = Unit {0}

-- ---- what stands in a cache

-- What was found before is still found. A hit that may be read may be read later too, and stands for the same artifact.
pub record HitsStay {S : Type 0} (tells : Type 0) (stands : S → Hit → Type 0)
    (shows : S → Hit → Artifact) (old new : S) : Type 0 where
  pub stays : (hit : Hit) → stands old hit → stands new hit
  pub same : tells → (hit : Hit) → stands old hit → shows new hit ≡ shows old hit

-- what a call leaves that only reads
pub record CacheReads {B S X : Type 0} (tells : Type 0) (state : S → CacheState B)
    (cost : S → List ℕ → ℕ) (stands : S → Hit → Type 0) (shows : S → Hit → Artifact)
    (moment : S → Moment) (since : S → Moment → X → Type 0) (says : B → X → Option (List Pair))
    (old new : S) : Type 0 where
  pub pairs : tells → (state new).pairs ≡ (state old).pairs
  pub lasting : tells → (state new).lasting ≡ (state old).lasting
  pub sure : tells → (state new).sure ≡ (state old).sure
  pub cost_same : tells → (key : List ℕ) → cost new key ≡ cost old key
  pub hits : HitsStay tells stands shows old new
  pub left : tells → Leaves moment since old new
      (λ image. IsPartSince (state old).lasting (state old).pairs (says (state old).base image))
  pub keeps : Keeps (state old) (state new)

-- ---- what is put

-- the pairs after some were put: with all of them behind the others, or as before; and after a fault the first of all
-- these, and at least those that lasted
abbrev pub AllAfter : {T : Type 0} → Result T CacheErr → ℕ → List Pair → List Pair → List Pair
    → Type 0
AllAfter (Ok _) lasting before added now = now ≡ before ++ added
AllAfter (Err Failed) lasting before added now = AreFirst lasting (before ++ added) now
AllAfter (Err _) lasting before added now = now ≡ before

-- the pairs after what was due was put: as before, and all last; or as before; and after a fault the first of them, and
-- at least those that lasted
abbrev pub SettledAs : {T B : Type 0} → Result T CacheErr → (old new : CacheState B) → Type 0
SettledAs (Ok _) old new = (new.pairs ≡ old.pairs) × AllLast new
SettledAs (Err Failed) old new = AreFirst old.lasting old.pairs new.pairs
SettledAs (Err _) old new = new.pairs ≡ old.pairs

-- more room than a pair could want in any form of a cache
abbrev pub ample : Pair → ℕ
ample pair = ROOM_FOR_A_BYTE * (length pair.0 + length pair.1) + ROOM_BESIDE

-- for each pair that was not put there was less room than it may want
abbrev pub NoRoomFor : ℕ → List Pair → List Put → Type 0
NoRoomFor room [] puts = Unit {0}
NoRoomFor room (pair ∷ pairs) [] = Unit {0}
NoRoomFor room (pair ∷ pairs) (put.Stored ∷ puts) = NoRoomFor room pairs puts
NoRoomFor room (pair ∷ pairs) (put.Full ∷ puts) = (room < ample pair) × NoRoomFor room pairs puts

-- each of the pairs was put or found no room
pub record ArePut (room : ℕ) (pairs : List Pair) (puts : List Put) : Type 0 where
  pub even : length puts ≡ length pairs
  pub full : NoRoomFor room pairs puts

-- for each pair that is not put there is less room than it may want together with those that are put before it
abbrev pub NoRoomBehind : ℕ → ℕ → List Pair → List Put → Type 0
NoRoomBehind room taken [] puts = Unit {0}
NoRoomBehind room taken (pair ∷ pairs) [] = Unit {0}
NoRoomBehind room taken (pair ∷ pairs) (put.Stored ∷ puts) =
    NoRoomBehind room (taken + ample pair) pairs puts
NoRoomBehind room taken (pair ∷ pairs) (put.Full ∷ puts) =
    (room < taken + ample pair) × NoRoomBehind room taken pairs puts

-- of each of the pairs it is said whether it is put into the cache, and rightly where it is not: there is less room than
-- it may want together with what is due and those that are put before it
pub record AreToPut {B : Type 0} (state : CacheState B) (pairs : List Pair) (puts : List Put)
    : Type 0 where
  pub even : length puts ≡ length pairs
  pub full : NoRoomBehind state.room (sum_by ample (due_in state)) pairs puts
