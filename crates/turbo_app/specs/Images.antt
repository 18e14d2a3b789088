-- What a crash leaves of the stores at any moment of a call.
use Rattle.std.specs.Prelude.{◌≡◌, ◌⊎◌, ◌≤◌, ℕ, List, [], ◌∷◌, ◌++◌, length, Option}
use Rattle.std.specs.Prelude.{Some, Result, Ok, Err, ⊤}
use Rattle.std.specs.List.{AllByRecursion}
use Rattle.store_dev.specs.Device.{Only}
use Rattle.store_dev.specs.declared.device.StoreDevice.{Ghosts}
use Rattle.cache_api.specs.Pairs.{Pair}
use Rattle.compact.specs.Chosen.{chosen}
use Rattle.compact.specs.Current.{pairs_of}
use Rattle.compact.specs.declared.side.Side.{Side}
use Rattle.spawn_dev.specs.declared.command.Step.{Step}
use Rattle.cli_words.specs.declared.order.Order.{Order}
use Rattle.cli_words.specs.declared.order.Order.TheVariants.{Run, Prune, Sample, Compact, Help}
use Rattle.cli_words.specs.declared.error.WordsErr.{WordsErr}
use Rattle.cli_words.specs.Orders.{order_of}
use Rattle.run_laws.specs.Effects.{Book}
use Rattle.run_laws.specs.Pairs.{IsDue, IsGood}
use Rattle.store_answers.specs.Stores.{Stores, held_in}
use Rattle.record_log.specs.Frames.{ReadsAsOneOf}
use Rattle.second_runs.specs.Images.{AddsTo, IsOneOfBoth, LeavesPairs}
use Rattle.shared_runs.specs.declared.turn.Shared as shared
use Rattle.run_orders.specs.Images.{AddsToShared, IsLeftByOrder, IsTrustedOrder}
use Rattle.run_orders.specs.Images.{IsSecondByOrder, IsSharedByOrder, RereadsOther}
use Rattle.run_orders.specs.Images.{puts_local, puts_second}
use Rattle.run_orders.specs.Moments.{OrderMoment}
use Rattle.run_orders.specs.Outcomes.{LastsLocal, LastsSecond, LastsShared}
use Rattle.run_orders.specs.Uses.{uses_of}
use Rattle.compact_orders.specs.Left.{KeepsSound}

-- ---- what a run is trusted in

abbrev pub IsTrustedBy :
    Result Order WordsErr → Book → List (List ℕ × List ℕ) → OrderMoment → Type 0
IsTrustedBy (Err fault) book env old = ⊤
IsTrustedBy (Ok Help) book env old = ⊤
IsTrustedBy (Ok (Prune targets docker)) book env old = ⊤
IsTrustedBy (Ok (Sample size)) book env old = ⊤
IsTrustedBy (Ok (Compact keep)) book env old = ⊤
IsTrustedBy (Ok (Run order)) book env old = IsTrustedOrder order book env old

-- what words ask for is trusted
abbrev pub IsTrustedIn : List (List ℕ) → Book → List (List ℕ × List ℕ) → OrderMoment → Type 0
IsTrustedIn words book env old = IsTrustedBy (order_of words) book env old

-- ---- what a crash leaves of each device

-- Each image adds to one that there was as the call began, where results are put into the store,
-- and else it is one; of orders to compact each is sound where those were.
abbrev pub AddsBy : Result Order WordsErr → (List ℕ → Type 0) → List ℕ → Type 0
AddsBy (Ok (Run order)) images c = AddsTo (puts_local (uses_of order) order.access) images c
AddsBy (Ok (Compact keep)) images c = KeepsSound images c
AddsBy (Ok (Prune targets docker)) images c = images c
AddsBy (Ok (Sample size)) images c = images c
AddsBy (Ok Help) images c = images c
AddsBy (Err fault) images c = images c

-- the same of the second store
abbrev pub AddsToSecond : Result Order WordsErr → (List ℕ → Type 0) → List ℕ → Type 0
AddsToSecond (Ok (Run order)) images c = AddsTo (puts_second (uses_of order) order.access) images c
AddsToSecond (Ok (Compact keep)) images c = images c
AddsToSecond (Ok (Prune targets docker)) images c = images c
AddsToSecond (Ok (Sample size)) images c = images c
AddsToSecond (Ok Help) images c = images c
AddsToSecond (Err fault) images c = images c

-- of the shared file: it has what there was as the call began, or a run added to it
abbrev pub AddsToSharedBy : {H D : Type 0} → shared.Ghosts H D → H → Result Order WordsErr
    → OrderMoment → List ℕ → Type 0
AddsToSharedBy G file (Ok (Run order)) old c = AddsToShared G file (uses_of order) old c
AddsToSharedBy G file (Ok (Compact keep)) old c = G.images file c
AddsToSharedBy G file (Ok (Prune targets docker)) old c = G.images file c
AddsToSharedBy G file (Ok (Sample size)) old c = G.images file c
AddsToSharedBy G file (Ok Help) old c = G.images file c
AddsToSharedBy G file (Err fault) old c = G.images file c

-- where an order to run or to compact came to its end, a crash leaves the bytes of a store alone
abbrev pub LastsBy : Result Order WordsErr → List ℕ → (List ℕ → Type 0) → Type 0
LastsBy (Ok (Run order)) bytes images = LastsLocal (uses_of order) order.access bytes images
LastsBy (Ok (Compact keep)) bytes images = Only bytes images
LastsBy (Ok (Prune targets docker)) bytes images = ⊤
LastsBy (Ok (Sample size)) bytes images = ⊤
LastsBy (Ok Help) bytes images = ⊤
LastsBy (Err fault) bytes images = ⊤

-- of an order to run the same of the second store, and of the shared file
abbrev pub LastsSecondBy : Result Order WordsErr → List ℕ → (List ℕ → Type 0) → Type 0
LastsSecondBy (Ok (Run order)) bytes images = LastsSecond (uses_of order) bytes images
LastsSecondBy (Ok (Compact keep)) bytes images = ⊤
LastsSecondBy (Ok (Prune targets docker)) bytes images = ⊤
LastsSecondBy (Ok (Sample size)) bytes images = ⊤
LastsSecondBy (Ok Help) bytes images = ⊤
LastsSecondBy (Err fault) bytes images = ⊤

abbrev pub LastsSharedBy : Result Order WordsErr → List ℕ → (List ℕ → Type 0) → Type 0
LastsSharedBy (Ok (Run order)) bytes images = LastsShared (uses_of order) bytes images
LastsSharedBy (Ok (Compact keep)) bytes images = ⊤
LastsSharedBy (Ok (Prune targets docker)) bytes images = ⊤
LastsSharedBy (Ok (Sample size)) bytes images = ⊤
LastsSharedBy (Ok Help) bytes images = ⊤
LastsSharedBy (Err fault) bytes images = ⊤

-- ---- what it leaves of both

-- what compaction keeps of the current one of two such images is what that of these stands for
pub record IsChosenOfBoth (keep : Option ℕ) (stores spares : List ℕ → Type 0) (f s : List ℕ)
    : Type 0 where
  pub store : List ℕ
  pub spare : List ℕ
  pub was_store : stores store
  pub was_spare : spares spare
  pub pairs : List Pair
  pub was : pairs_of store spare ≡ Some pairs
  pub is : pairs_of f s ≡ Some (chosen pairs keep)

-- What the current one of two images stands for: what that of two such images stood for as the call
-- began; of an order to run perhaps that and some first part of what is due by its steps, and of an
-- order to compact perhaps what is kept of it.
abbrev pub IsLeftBy :
    Result Order WordsErr → Book → List (List ℕ × List ℕ) → OrderMoment → List Step
    → (List ℕ → Type 0) → (List ℕ → Type 0) → List ℕ → List ℕ → Type 0
IsLeftBy (Err fault) book env old steps stores spares f s = IsOneOfBoth stores spares f s
IsLeftBy (Ok Help) book env old steps stores spares f s = IsOneOfBoth stores spares f s
IsLeftBy (Ok (Prune targets docker)) book env old steps stores spares f s =
    IsOneOfBoth stores spares f s
IsLeftBy (Ok (Sample size)) book env old steps stores spares f s = IsOneOfBoth stores spares f s
IsLeftBy (Ok (Compact keep)) book env old steps stores spares f s =
    IsOneOfBoth stores spares f s ⊎ IsChosenOfBoth keep stores spares f s
IsLeftBy (Ok (Run order)) book env old steps stores spares f s =
    IsLeftByOrder order book env old steps stores spares f s

-- At each moment of a call an image of the one device and one of the other leave what has Q: at
-- those up to some state of both, and at those behind it.
pub record LeavesAtOnce {S P : Type 0} (G : Ghosts S) (H : Ghosts P) (old new : S) (spare then : P)
    (Q : List ℕ → List ℕ → Type 0) : Type 0 where
  pub middle : S
  pub middle_spare : P
  pub until : LeavesPairs G H old middle spare middle_spare Q
  pub later : G.moment middle ≤ G.moment new
  pub spare_later : H.moment middle_spare ≤ H.moment then
  pub behind : LeavesPairs G H middle new middle_spare then Q

-- at any moments of a call, the one device and the other; of an order to compact at any one moment
abbrev pub Leaves : {S P : Type 0} → Ghosts S → Ghosts P → Result Order WordsErr → S → S → P → P
    → (List ℕ → List ℕ → Type 0) → Type 0
Leaves G H (Ok (Compact keep)) old new spare then Q = LeavesAtOnce G H old new spare then Q
Leaves G H (Ok (Run order)) old new spare then Q = LeavesPairs G H old new spare then Q
Leaves G H (Ok (Prune targets docker)) old new spare then Q = LeavesPairs G H old new spare then Q
Leaves G H (Ok (Sample size)) old new spare then Q = LeavesPairs G H old new spare then Q
Leaves G H (Ok Help) old new spare then Q = LeavesPairs G H old new spare then Q
Leaves G H (Err fault) old new spare then Q = LeavesPairs G H old new spare then Q

-- what a call of these words leaves
abbrev pub LeavesBy : {S P : Type 0} → Ghosts S → Ghosts P → Result Order WordsErr → Book
    → List (List ℕ × List ℕ) → OrderMoment → List Step → S → S → P → P → Type 0
LeavesBy G H asked book env old steps store new spare then = Leaves G H asked store new spare then
    (IsLeftBy asked book env old steps (G.images store) (H.images spare))

-- of an order to run, the store that was not current was at most opened again
abbrev pub RereadsBy : {S P : Type 0} → Ghosts S → Ghosts P → Result Order WordsErr → Side → S → S
    → P → P → Type 0
RereadsBy G H (Ok (Run order)) side old new spare then = RereadsOther G H side old new spare then
RereadsBy G H (Ok (Compact keep)) side old new spare then = ⊤
RereadsBy G H (Ok (Prune targets docker)) side old new spare then = ⊤
RereadsBy G H (Ok (Sample size)) side old new spare then = ⊤
RereadsBy G H (Ok Help) side old new spare then = ⊤
RereadsBy G H (Err fault) side old new spare then = ⊤

-- ---- what it leaves of the second store and of the shared file

-- of an order to run what that leaves of the second store, and else an image that there was
abbrev pub IsSecondBy : Result Order WordsErr → Book → List (List ℕ × List ℕ) → OrderMoment
    → List Step → (List ℕ → Type 0) → List ℕ → Type 0
IsSecondBy (Ok (Run order)) book env old steps images c =
    IsSecondByOrder order book env old steps images c
IsSecondBy (Ok (Compact keep)) book env old steps images c = ReadsAsOneOf images c
IsSecondBy (Ok (Prune targets docker)) book env old steps images c = ReadsAsOneOf images c
IsSecondBy (Ok (Sample size)) book env old steps images c = ReadsAsOneOf images c
IsSecondBy (Ok Help) book env old steps images c = ReadsAsOneOf images c
IsSecondBy (Err fault) book env old steps images c = ReadsAsOneOf images c

-- the same of the shared file
abbrev pub IsSharedBy : {H D : Type 0} → shared.Ghosts H D → H → Result Order WordsErr → Book
    → List (List ℕ × List ℕ) → OrderMoment → OrderMoment → List ℕ → Type 0
IsSharedBy G file (Ok (Run order)) book env old new c =
    IsSharedByOrder G file order book env old new c
IsSharedBy G file (Ok (Compact keep)) book env old new c = G.images file c
IsSharedBy G file (Ok (Prune targets docker)) book env old new c = G.images file c
IsSharedBy G file (Ok (Sample size)) book env old new c = G.images file c
IsSharedBy G file (Ok Help) book env old new c = G.images file c
IsSharedBy G file (Err fault) book env old new c = G.images file c

-- ---- what the pairs tell

-- whatever pairs the current one of two images stands for tell the truth
abbrev pub TellsTruth : Book → List ℕ → List ℕ → Type 0
TellsTruth book f s = (pairs : List Pair) → pairs_of f s ≡ Some pairs → IsGood book pairs

-- and so do those that the store and the spare one hold
abbrev pub HeldTruth : Book → OrderMoment → Type 0
HeldTruth book old = (pairs : List Pair) → (held_in old.held.local).pairs ≡ Some pairs
    → IsGood book pairs

-- Where what the stores held told the truth as a call began, and what each image of the one with
-- each image of the other stood for, so does what it leaves.
abbrev pub TruthLaw : {S P : Type 0} → (S → List ℕ → Type 0) → (P → List ℕ → Type 0) → Type 0
TruthLaw {S} {P} stores spares = (store : S) (spare : P) (words : List (List ℕ)) (book : Book)
    (env : List (List ℕ × List ℕ)) (old : OrderMoment) (steps : List Step)
    → ((d e : List ℕ) → stores store d → spares spare e → TellsTruth book d e)
    → HeldTruth book old → (f s : List ℕ)
    → IsLeftBy (order_of words) book env old steps (stores store) (spares spare) f s
    → TellsTruth book f s

-- ---- one image after another

-- what the current one of two stores stands for
abbrev pub pairs_in : Stores → Option (List Pair)
pairs_in stores = pairs_of stores.store stores.spare

-- a run adds pairs that are due
pub record AddsDue (book : Book) (old new : Stores) : Type 0 where
  pub pairs : List Pair
  pub was : pairs_in old ≡ Some pairs
  pub added : List Pair
  pub is : pairs_in new ≡ Some (pairs ++ added)
  pub due : AllByRecursion (IsDue book) added

-- a compaction keeps some
pub record KeepsChosen (old new : Stores) : Type 0 where
  pub pairs : List Pair
  pub was : pairs_in old ≡ Some pairs
  pub keep : Option ℕ
  pub is : pairs_in new ≡ Some (chosen pairs keep)

-- each of these is left of the one before it by a run or by a compaction
abbrev pub IsChain : Book → Stores → List Stores → Type 0
IsChain book before [] = ⊤
IsChain book before (stores ∷ later) =
    (AddsDue book before stores ⊎ KeepsChosen before stores) × IsChain book stores later

-- the current one is a store whose pairs tell the truth
abbrev pub HasGoodPairs : Book → Stores → Type 0
HasGoodPairs book stores = (pairs : List Pair) × (pairs_in stores ≡ Some pairs) × IsGood book pairs

-- In a chain that began with two empty stores, which have at most nine bytes each, all pairs tell
-- the truth.
abbrev pub ImageLaw : Type 0
ImageLaw = (book : Book) (first : Stores) (images : List Stores) → length first.store ≤ 9
    → length first.spare ≤ 9 → IsChain book first images
    → AllByRecursion (HasGoodPairs book) images
