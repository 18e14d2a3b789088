-- What the bytes of a store stand for, and its images where it was left alone.
use Rattle.std.proofs.Common.{◌≡◌, ◌≤◌, ◌<◌, inl, inr, ℕ, List, [], length, Some, Ok, Err, refl}
use Rattle.std.proofs.lemmas.Bool.{cases_lt, le-ltb}
use Rattle.record_log.specs.Frames.{Fault, reading}
use Rattle.pair_frames.specs.Pairs as frames
use Rattle.artifact_store.specs.Laws.{stands_is}
use Rattle.store_dev.specs.Device.{LeavesOnly}
use Rattle.store_dev.specs.Moments.{started}
use Rattle.store_dev.specs.declared.device.StoreDevice.{Ghosts}
use Rattle.artifact_store.specs.Pairs.{stands_for}
use Rattle.compact.specs.declared.side.Side.{Side}
use Rattle.compact.specs.declared.side.Side.TheVariants.{First, Spare}
use Rattle.compact.specs.Left.{IsReread}
use Rattle.shared_runs.specs.declared.turn.Shared as shared
use Rattle.second_runs.specs.Images.{IsOneOfBoth, LeavesPairs}
use Rattle.second_runs.proofs.Reading.{OnlyNow}
use Rattle.run_orders.specs.Images.{AddsToShared, RereadsOther}
use Rattle.run_orders.specs.Moments.{OrderMoment}
use Rattle.run_orders.specs.declared.uses.Uses.{Uses}
use Rattle.run_orders.specs.declared.uses.Uses.TheVariants as uses

-- ---- short stores

-- at most nine bytes are an empty store
pub short_read : (bytes : List ℕ) → length bytes ≤ 9 → reading bytes ≡ Ok []
unfolding reading
short_read bytes short = rw (le-ltb _ _ short) refl

pub short_stands : (bytes : List ℕ) → length bytes ≤ 9 → stands_for bytes ≡ Some []
unfolding frames.pairs_in
short_stands bytes short = stands_is bytes [] (short_read bytes short)

-- what is no store has more
pub long_read : (bytes : List ℕ) (fault : Fault) → reading bytes ≡ Err fault → 9 < length bytes
long_read bytes fault bad = elim (cases_lt 9 (length bytes)) as (λ _. 9 < length bytes) [
  | inl long ↦ long
  | inr short ↦ let empty = short_read bytes short in absurd (cc (empty, bad))
]

-- ---- images

-- those that there were
pub self_both : (stores spares : List ℕ → Type 0) (f s : List ℕ) → stores f → spares s
    → IsOneOfBoth stores spares f s
self_both stores spares f s now also = (f, s, now, also, refl)

module _ {H D : Type 0} (G : shared.Ghosts H D) (file : H) (old : OrderMoment) where
  pub self_shared : (used : Uses) (c : List ℕ) → G.images file c
      → AddsToShared G file used old c
  self_shared uses.Current c now = now
  self_shared uses.Second c now = now
  self_shared uses.Shared c now = inl (inl (c, now, refl))

-- ---- a device that was left alone

pub unchanged : {D : Type 0} (moment : D → ℕ) (since : D → ℕ → List ℕ → Type 0)
    (images : D → List ℕ → Type 0) (P : List ℕ → Type 0) (device : D)
    → ((c : List ℕ) → since device (moment device) c → images device c)
    → ((c : List ℕ) → images device c → P c)
    → LeavesOnly moment since device device P
unchanged moment since images P device only here =
    started moment since device P (λ c left. here c (only c left))

-- two that were left alone
pub alone_pairs : {S P : Type 0} (G : Ghosts S) (H : Ghosts P) (store : S) (spare : P)
    (Q : List ℕ → List ℕ → Type 0) → OnlyNow G store → OnlyNow H spare
    → ((f s : List ℕ) → G.images store f → H.images spare s → Q f s)
    → LeavesPairs G H store store spare spare Q
alone_pairs G H store spare Q only also here f s left after = here f s (only f left) (also s after)

-- two that were at most opened again
pub reread_other : {S P : Type 0} (G : Ghosts S) (H : Ghosts P) (store new : S)
    (spare new_spare : P) → IsReread G store new → IsReread H spare new_spare → (side : Side)
    → RereadsOther G H side store new spare new_spare
reread_other G H store new spare new_spare x y First = y
reread_other G H store new spare new_spare x y Spare = x
