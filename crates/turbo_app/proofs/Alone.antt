-- What a call leaves that did not use the stores, and what is said of answers part by part.
use Rattle.std.proofs.Common.{ℕ, Bool, List, Ok, Err, inl, refl, arith}
use Rattle.std.specs.Prelude.{Result}
use Rattle.store_dev.specs.Device.{LeavesOnly}
use Rattle.store_dev.specs.declared.device.StoreDevice.{Ghosts}
use Rattle.spawn_dev.specs.declared.command.Step.{Step}
use Rattle.cli_words.specs.declared.order.Order.{Order}
use Rattle.cli_words.specs.declared.order.Order.TheVariants.{Run, Prune, Sample, Compact, Help}
use Rattle.cli_words.specs.declared.error.WordsErr.{WordsErr}
use Rattle.run_laws.specs.Effects.{Book}
use Rattle.refusals.specs.declared.refusal.Refusal.{Refusal}
use Rattle.answers.specs.declared.answer.Answer.{Answer}
use Rattle.answers.specs.declared.answer.Answer.TheVariants.{Done, Refused, TreeFault, StoreFault}
use Rattle.answers.specs.declared.answer.Answer.TheVariants.{StartFault, SinkFault, OutOfMemory}
use Rattle.answers.specs.Answers.{IfDone, IfRefused}
use Rattle.run_orders.specs.Moments.{OrderMoment}
use Rattle.run_orders.specs.Facts.{alone_pairs, reread_other, self_both, self_shared, unchanged}
use Rattle.run_orders.specs.Uses.{uses_of}
use Rattle.compact_orders.specs.Left.{AreReread}
use Rattle.second_runs.specs.Images.{AddsTo, LeavesPairs}
use Rattle.second_runs.proofs.Reading.{OnlyNow, alone_reread}
use Rattle.shared_runs.specs.declared.turn.Shared as shared
use Rattle.file_runs.specs.Images.{StaysSound}
use Rattle.turbo_app.specs.Images.{AddsBy, AddsToSecond, AddsToSharedBy, IsLeftBy, IsSecondBy}
use Rattle.turbo_app.specs.Images.{IsSharedBy, Leaves, LeavesBy, RereadsBy}
use Rattle.compact.specs.declared.side.Side.{Side}

-- ---- devices that were left alone

-- whatever words ask for, an image adds to itself
module _ {D : Type 0} (G : Ghosts D) (device : D) (only : OnlyNow G device) where
  self_adds : (puts : Bool) (c : List ℕ) → G.images device c → AddsTo puts (G.images device) c
  self_adds puts c now = (c, now, inl refl)

  stays : (P : List ℕ → Type 0) → ((c : List ℕ) → G.images device c → P c)
      → LeavesOnly G.moment G.images_since device device P
  stays P here = unchanged G.moment G.images_since G.images P device only here

  pub alone_by : (asked : Result Order WordsErr)
      → LeavesOnly G.moment G.images_since device device (AddsBy asked (G.images device))
  alone_by (Ok (Compact keep)) = stays _ (λ c now all. all c now)
  alone_by (Ok (Run order)) = stays _ (self_adds _)
  alone_by (Ok (Prune targets docker)) = stays _ (λ c now. now)
  alone_by (Ok (Sample size)) = stays _ (λ c now. now)
  alone_by (Ok Help) = stays _ (λ c now. now)
  alone_by (Err fault) = stays _ (λ c now. now)

  pub alone_second : (asked : Result Order WordsErr)
      → LeavesOnly G.moment G.images_since device device (AddsToSecond asked (G.images device))
  alone_second (Ok (Compact keep)) = stays _ (λ c now. now)
  alone_second (Ok (Run order)) = stays _ (self_adds _)
  alone_second (Ok (Prune targets docker)) = stays _ (λ c now. now)
  alone_second (Ok (Sample size)) = stays _ (λ c now. now)
  alone_second (Ok Help) = stays _ (λ c now. now)
  alone_second (Err fault) = stays _ (λ c now. now)

  pub second_alone : (asked : Result Order WordsErr) (book : Book)
      (env : List (List ℕ × List ℕ)) (old : OrderMoment) (steps : List Step)
      → LeavesOnly G.moment G.images_since device device
      (IsSecondBy asked book env old steps (G.images device))
  second_alone (Ok (Run order)) book env old steps = stays _ (λ c now. inl (c, now, refl))
  second_alone (Ok (Compact keep)) book env old steps = stays _ (λ c now. (c, now, refl))
  second_alone (Ok (Prune targets docker)) book env old steps = stays _ (λ c now. (c, now, refl))
  second_alone (Ok (Sample size)) book env old steps = stays _ (λ c now. (c, now, refl))
  second_alone (Ok Help) book env old steps = stays _ (λ c now. (c, now, refl))
  second_alone (Err fault) book env old steps = stays _ (λ c now. (c, now, refl))

-- a shared file
module _ {F D : Type 0} (G : shared.Ghosts F D) (file : F)
    (only : (c : List ℕ) → G.images_since file (G.moment file) c → G.images file c) where
  pub shared_stays : StaysSound G file file
  shared_stays all c left = all c (only c left)

  rests : (P : List ℕ → Type 0) → ((c : List ℕ) → G.images file c → P c)
      → LeavesOnly G.moment G.images_since file file P
  rests P here = unchanged G.moment G.images_since G.images P file only here

  pub shared_adds : (asked : Result Order WordsErr) (old : OrderMoment)
      → LeavesOnly G.moment G.images_since file file (AddsToSharedBy G file asked old)
  shared_adds (Ok (Run order)) old = rests _ (self_shared G file old (uses_of order))
  shared_adds (Ok (Compact keep)) old = rests _ (λ c now. now)
  shared_adds (Ok (Prune targets docker)) old = rests _ (λ c now. now)
  shared_adds (Ok (Sample size)) old = rests _ (λ c now. now)
  shared_adds (Ok Help) old = rests _ (λ c now. now)
  shared_adds (Err fault) old = rests _ (λ c now. now)

  pub shared_alone : (asked : Result Order WordsErr) (book : Book)
      (env : List (List ℕ × List ℕ)) (old new : OrderMoment)
      → LeavesOnly G.moment G.images_since file file (IsSharedBy G file asked book env old new)
  shared_alone (Ok (Run order)) book env old new = rests _ (λ c now. inl now)
  shared_alone (Ok (Compact keep)) book env old new = rests _ (λ c now. now)
  shared_alone (Ok (Prune targets docker)) book env old new = rests _ (λ c now. now)
  shared_alone (Ok (Sample size)) book env old new = rests _ (λ c now. now)
  shared_alone (Ok Help) book env old new = rests _ (λ c now. now)
  shared_alone (Err fault) book env old new = rests _ (λ c now. now)

module _ {S P : Type 0} (G : Ghosts S) (H : Ghosts P) (store : S) (spare : P)
    (only : OnlyNow G store) (also : OnlyNow H spare) where
  -- nothing is asked of them
  pub alone_other : (asked : Result Order WordsErr) (side : Side)
      → RereadsBy G H asked side store store spare spare
  alone_other (Ok (Run order)) side = reread_other G H store store spare spare
      (alone_reread G store only) (alone_reread H spare also) side
  alone_other (Ok (Compact keep)) side = tt
  alone_other (Ok (Prune targets docker)) side = tt
  alone_other (Ok (Sample size)) side = tt
  alone_other (Ok Help) side = tt
  alone_other (Err fault) side = tt

  -- they were at most opened again
  pub alone_both : AreReread G H store store spare spare
  alone_both = record {
    of_store = alone_reread G store only;
    of_spare = alone_reread H spare also;
  }

  -- at any moments, and so at any one moment
  alone_leaves : (asked : Result Order WordsErr) (Q : List ℕ → List ℕ → Type 0)
      → LeavesPairs G H store store spare spare Q → Leaves G H asked store store spare spare Q
  alone_leaves (Ok (Compact keep)) Q all = record {
    middle = store;
    middle_spare = spare;
    until = all;
    later = omega arith;
    spare_later = omega arith;
    behind = all;
  }
  alone_leaves (Ok (Run order)) Q all = all
  alone_leaves (Ok (Prune targets docker)) Q all = all
  alone_leaves (Ok (Sample size)) Q all = all
  alone_leaves (Ok Help) Q all = all
  alone_leaves (Err fault) Q all = all

  -- whatever words ask for, two images may stand for what they stood for
  self_left : (asked : Result Order WordsErr) (book : Book) (env : List (List ℕ × List ℕ))
      (old : OrderMoment) (steps : List Step) (f s : List ℕ) → G.images store f → H.images spare s
      → IsLeftBy asked book env old steps (G.images store) (H.images spare) f s
  self_left (Ok (Compact keep)) book env old steps f s now then =
      inl (self_both (G.images store) (H.images spare) f s now then)
  self_left (Ok (Run order)) book env old steps f s now then =
      inl (self_both (G.images store) (H.images spare) f s now then)
  self_left (Ok (Prune targets docker)) book env old steps f s now then =
      self_both (G.images store) (H.images spare) f s now then
  self_left (Ok (Sample size)) book env old steps f s now then =
      self_both (G.images store) (H.images spare) f s now then
  self_left (Ok Help) book env old steps f s now then =
      self_both (G.images store) (H.images spare) f s now then
  self_left (Err fault) book env old steps f s now then =
      self_both (G.images store) (H.images spare) f s now then

  pub alone_left : (asked : Result Order WordsErr) (book : Book) (env : List (List ℕ × List ℕ))
      (old : OrderMoment) (steps : List Step)
      → LeavesBy G H asked book env old steps store store spare spare
  alone_left asked book env old steps = alone_leaves asked _
      (alone_pairs G H store spare _ only also (self_left asked book env old steps))

-- ---- answers

-- what is said of an answer where the tree tells, is said of its refusal there
pub refused_told : (tells : Type 0) (answer : Answer) (P : Refusal → Type 0)
    → (tells → IfRefused answer P) → IfRefused answer (λ reason. tells → P reason)
refused_told tells (Done status) P said = tt
refused_told tells (Refused reason) P said = said
refused_told tells TreeFault P said = tt
refused_told tells StoreFault P said = tt
refused_told tells StartFault P said = tt
refused_told tells SinkFault P said = tt
refused_told tells OutOfMemory P said = tt

-- what is so whatever the reason is
pub refused_all : (answer : Answer) (P : Refusal → Type 0) → ((reason : Refusal) → P reason)
    → IfRefused answer P
refused_all (Done status) P all = tt
refused_all (Refused reason) P all = all reason
refused_all TreeFault P all = tt
refused_all StoreFault P all = tt
refused_all StartFault P all = tt
refused_all SinkFault P all = tt
refused_all OutOfMemory P all = tt

-- what is said twice of an answer
pub refused_both : (answer : Answer) (P Q R : Refusal → Type 0)
    → ((reason : Refusal) → P reason → Q reason → R reason)
    → IfRefused answer P → IfRefused answer Q → IfRefused answer R
refused_both (Done status) P Q R to p q = tt
refused_both (Refused reason) P Q R to p q = to reason p q
refused_both TreeFault P Q R to p q = tt
refused_both StoreFault P Q R to p q = tt
refused_both StartFault P Q R to p q = tt
refused_both SinkFault P Q R to p q = tt
refused_both OutOfMemory P Q R to p q = tt

pub done_both : (answer : Answer) (P Q R : ℕ → Type 0)
    → ((status : ℕ) → P status → Q status → R status)
    → IfDone answer P → IfDone answer Q → IfDone answer R
done_both (Done status) P Q R to p q = to status p q
done_both (Refused reason) P Q R to p q = tt
done_both TreeFault P Q R to p q = tt
done_both StoreFault P Q R to p q = tt
done_both StartFault P Q R to p q = tt
done_both SinkFault P Q R to p q = tt
done_both OutOfMemory P Q R to p q = tt

pub done_as : (answer : Answer) (P Q : ℕ → Type 0) → ((status : ℕ) → P status → Q status)
    → IfDone answer P → IfDone answer Q
done_as answer P Q to p = done_both answer P P Q (λ status one other. to status one) p p
