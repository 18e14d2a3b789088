-- What an order to compact leaves of two devices.
use Rattle.std.specs.Prelude.{◌≡◌, ◌⊎◌, ◌≤◌, ℕ, List, Option, Some}
use Rattle.store_dev.specs.Device.{LeavesOnly}
use Rattle.store_dev.specs.declared.device.StoreDevice.{Ghosts}
use Rattle.cache_api.specs.Pairs.{Pair}
use Rattle.record_log.specs.Frames.{IsSound, ReadsAsOneOf}
use Rattle.compact.specs.declared.side.Side.{Side}
use Rattle.compact.specs.declared.side.Side.TheVariants.{First, Spare}
use Rattle.compact.specs.Current.{generation_in, current_of, pairs_of}
use Rattle.compact.specs.Left.{ReadsAs, Rests, StillRests, IsReread, IsRenewing, IsEither}
use Rattle.compact.specs.Left.{chosen_in, next_generation}
use Rattle.refusals.specs.declared.refusal.Refusal.{Refusal}
use Rattle.refusals.specs.declared.refusal.Refusal.TheVariants.{NotAStore, Damaged}
use Rattle.store_answers.specs.Stores.{Stores, stores_of}
use Rattle.compact_orders.specs.Asking.{AreSound, current_pairs, kept_pairs}

-- ---- what came to its end

-- each of two devices has one image, and the current one stands for the pairs that are kept
pub record LastsCompacted {S P : Type 0} (G : Ghosts S) (H : Ghosts P) (keep : Option ℕ)
    (stores : Stores) (store : S) (spare : P) : Type 0 where
  pub store_rests : Rests G store
  pub spare_rests : Rests H spare
  pub each : (f s : List ℕ) → G.images store f → H.images spare s
      → pairs_of f s ≡ Some (kept_pairs keep stores)

-- ---- what was refused

-- either device was at most opened again
pub record AreReread {S P : Type 0} (G : Ghosts S) (H : Ghosts P) (store now : S) (spare then : P)
    : Type 0 where
  pub of_store : IsReread G store now
  pub of_spare : IsReread H spare then

-- the current one of any two images stands for these pairs
abbrev pub AllStand : {S P : Type 0} (G : Ghosts S) (H : Ghosts P) → List Pair → S → P → Type 0
AllStand G H pairs store spare =
    (f s : List ℕ) → G.images store f → H.images spare s → pairs_of f s ≡ Some pairs

-- Where a file is no store both were at most opened again, and where the current one could not be
-- compacted it stands for its pairs.
abbrev pub LeavesRefused : {S P : Type 0} (G : Ghosts S) (H : Ghosts P) → S → S → P → P → Refusal
    → Type 0
LeavesRefused G H store now spare then (NotAStore file) = AreReread G H store now spare then
LeavesRefused G H store now spare then (Damaged file at) = AreReread G H store now spare then
LeavesRefused G H store now spare then _ =
    AllStand G H (current_pairs (stores_of (G.content store) (H.content spare))) now then

-- ---- at every moment

-- A call passes a state of both devices in which each has one image alone. Until then each image
-- has the frames of one that there was as it began, and of any two images since then Q holds.
pub record PassesRest {S P : Type 0} (G : Ghosts S) (H : Ghosts P) (old new : S × P)
    (Q : List ℕ → List ℕ → Type 0) : Type 0 where
  pub middle : S × P
  pub store_opened : LeavesOnly G.moment G.images_since old.0 middle.0
      (ReadsAsOneOf (G.images old.0))
  pub spare_opened : LeavesOnly H.moment H.images_since old.1 middle.1
      (ReadsAsOneOf (H.images old.1))
  pub store_rests : StillRests G old.0 middle.0
  pub spare_rests : StillRests H old.1 middle.1
  pub store_later : G.moment middle.0 ≤ G.moment new.0
  pub spare_later : H.moment middle.1 ≤ H.moment new.1
  pub behind : (f s : List ℕ) → G.images_since new.0 (G.moment middle.0) f
      → H.images_since new.1 (H.moment middle.1) s → Q f s

-- Both were at most opened again; or behind a rest the current one of any two images has the pairs
-- that there were, or those that are kept.
abbrev pub LeavesCompact : {S P : Type 0} (G : Ghosts S) (H : Ghosts P) → Option ℕ → S → S → P → P
    → Type 0
LeavesCompact G H keep store now spare then =
    AreReread G H store now spare then
    ⊎ PassesRest G H (store, spare) (now, then) (λ f s.
    IsEither (current_pairs (stores_of (G.content store) (H.content spare)))
    (kept_pairs keep (stores_of (G.content store) (H.content spare))) (pairs_of f s))

-- where all images were stores, this one is
abbrev pub KeepsSound : (List ℕ → Type 0) → List ℕ → Type 0
KeepsSound images c = ((d : List ℕ) → images d → IsSound d) → IsSound c

-- While the store on the first side named is compacted, an image of it has its frames, and one of
-- the other is as it may be while it is renewed.
abbrev pub IsWorkOn : Side → Side → Option ℕ → Stores → List ℕ → Type 0
IsWorkOn First First keep stores c = ReadsAs stores.store c
IsWorkOn First Spare keep stores c =
    IsRenewing (generation_in stores.spare) (next_generation stores.store)
    (chosen_in stores.store keep) c
IsWorkOn Spare First keep stores c =
    IsRenewing (generation_in stores.store) (next_generation stores.spare)
    (chosen_in stores.spare keep) c
IsWorkOn Spare Spare keep stores c = ReadsAs stores.spare c

-- An image of the device on that side is as one was as the call began, or both are stores and it
-- is one of the work.
abbrev pub IsFurther : (List ℕ → Type 0) → Side → Option ℕ → Stores → List ℕ → Type 0
IsFurther images side keep stores c =
    ReadsAsOneOf images c
    ⊎ (AreSound stores × IsWorkOn (current_of stores.store stores.spare) side keep stores c)
