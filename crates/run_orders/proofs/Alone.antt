-- What is said of a device, by the stores that an order uses.
use Rattle.std.proofs.Common.{◌≡◌, refl, ℕ, Bool, List}
use Rattle.store_dev.specs.Device.{LeavesOnly}
use Rattle.store_dev.specs.declared.device.StoreDevice.{Ghosts}
use Rattle.compact.specs.declared.side.Side.{Side}
use Rattle.compact.specs.declared.side.Side.TheVariants.{First, Spare}
use Rattle.compact.specs.Left.{IsReread}
use Rattle.cli_words.specs.declared.order.Access.{Access}
use Rattle.shared_runs.specs.declared.turn.Shared as shared
use Rattle.second_runs.specs.Images.{AddsTo}
use Rattle.second_runs.proofs.Reading.{OnlyNow, alone, reads_add}
use Rattle.run_orders.specs.Facts.{self_shared, unchanged}
use Rattle.run_orders.specs.Images.{AddsToShared, RereadsOther}
use Rattle.run_orders.specs.Moments.{OrderMoment}
use Rattle.run_orders.specs.Outcomes.{KeepsLocal, KeepsSecond, KeepsShared}
use Rattle.run_orders.specs.declared.uses.Uses.{Uses}
use Rattle.run_orders.specs.declared.uses.Uses.TheVariants as uses

-- ---- a device that was left alone

pub alone_puts : {D : Type 0} (G : Ghosts D) (device : D) → OnlyNow G device → (puts : Bool)
    → LeavesOnly G.moment G.images_since device device (AddsTo puts (G.images device))
alone_puts G device only puts = reads_add G device device (alone G device only) puts

-- a shared file
module _ {H D : Type 0} (G : shared.Ghosts H D) (file : H)
    (only : (c : List ℕ) → G.images_since file (G.moment file) c → G.images file c) where
  pub alone_shared : (used : Uses) (old : OrderMoment)
      → LeavesOnly G.moment G.images_since file file (AddsToShared G file used old)
  alone_shared used old =
      unchanged G.moment G.images_since G.images _ file only (self_shared G file old used)

pub keeps_local : {D : Type 0} (used : Uses) (access : Access) (device : D)
    → KeepsLocal used access device device
keeps_local uses.Current access device = tt
keeps_local uses.Second access device = λ _. refl
keeps_local uses.Shared access device = refl

pub keeps_second : {D : Type 0} (used : Uses) (device : D) → KeepsSecond used device device
keeps_second uses.Current device = refl
keeps_second uses.Second device = tt
keeps_second uses.Shared device = refl

pub keeps_shared : {D : Type 0} (used : Uses) (device : D) → KeepsShared used device device
keeps_shared uses.Current device = refl
keeps_shared uses.Second device = refl
keeps_shared uses.Shared device = tt

-- ---- the other one of two

-- it was at most opened again
pub other_by : {S P : Type 0} (G : Ghosts S) (H : Ghosts P) (store new : S)
    (spare new_spare : P) (side : Side) → (side ≡ Spare → IsReread G store new)
    → (side ≡ First → IsReread H spare new_spare)
    → RereadsOther G H side store new spare new_spare
other_by G H store new spare new_spare First x y = y refl
other_by G H store new spare new_spare Spare x y = x refl
