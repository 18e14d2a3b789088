-- Why files are no stores, and which refusals say so.
use Rattle.std.specs.Prelude.{◌≡◌, ◌⊎◌, ℕ, List, Result, Err}
use Rattle.record_log.specs.Frames.{Fault, reading, IsSound}
use Rattle.record_log.specs.Frames.Fault.{NotAStore, Damaged}
use Rattle.artifact_store.specs.declared.error.OpenErr.{OpenErr}
use Rattle.artifact_store.specs.declared.error.OpenErr.TheVariants as opening
use Rattle.compact.specs.declared.error.CurrentErr.{CurrentErr}
use Rattle.compact.specs.declared.error.CurrentErr.TheVariants as two
use Rattle.refusals.specs.declared.refusal.Refusal.{Refusal}
use Rattle.refusals.specs.declared.refusal.Refusal.TheVariants as refusal
use Rattle.refusals.specs.declared.refusal.StoreFile.{StoreFile}
use Rattle.refusals.specs.declared.refusal.StoreFile.TheVariants.{Store, Spare}
use Rattle.store_answers.specs.Stores.{Stores}

-- ---- by the bytes

abbrev pub store_refusal : StoreFile → Fault → Refusal
store_refusal file NotAStore = refusal.NotAStore file
store_refusal file (Damaged at) = refusal.Damaged file at

-- the bytes of the file are no store, for this reason
pub record IsNoStore (file : StoreFile) (stored : List ℕ) (reason : Refusal) : Type 0 where
  pub fault : Fault
  pub reads : reading stored ≡ Err fault
  pub is : reason ≡ store_refusal file fault

-- the store is none, or it is one and the spare one is none
abbrev pub IsNoStores : Stores → Refusal → Type 0
IsNoStores stores reason = IsNoStore Store stores.store reason
    ⊎ (IsSound stores.store × IsNoStore Spare stores.spare reason)

-- ---- by what their opening answers

-- the refusal of a device that was not opened as a store
abbrev pub IsStoreRefusal : StoreFile → OpenErr → Refusal → Type 0
IsStoreRefusal file opening.NotAStore reason = reason ≡ refusal.NotAStore file
IsStoreRefusal file (opening.Damaged at) reason = reason ≡ refusal.Damaged file at
IsStoreRefusal file opening.Failed reason = ⊥
IsStoreRefusal file opening.OutOfMemory reason = ⊥

-- the refusal of two devices of which one was not opened
abbrev pub IsCurrentRefusal : CurrentErr → Refusal → Type 0
IsCurrentRefusal (two.First fault) reason = IsStoreRefusal Store fault reason
IsCurrentRefusal (two.Spare fault) reason = IsStoreRefusal Spare fault reason
IsCurrentRefusal two.Failed reason = ⊥
IsCurrentRefusal two.OutOfMemory reason = ⊥

-- an error as a result
abbrev pub raised_current : CurrentErr → Result (Unit {0}) CurrentErr
raised_current fault = Err fault
