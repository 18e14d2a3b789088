-- From a log that was opened to a store.
use Rattle.std.proofs.Common.{◌≡◌, ◌≤◌, ℕ, Bool, List, Some, Result, refl, sym, ◌∙◌, ap, subst}
use Rattle.std.specs.Prelude.{MatchBool}
use Rattle.rel_path.specs.Causes.{Counts, Rose}
use Rattle.store_dev.specs.Device.{LeavesOnly, OnlyReads}
use Rattle.store_dev.specs.declared.device.StoreDevice.{Ghosts}
use Rattle.record_log.specs.declared.error.LogErr.{LogErr}
use Rattle.record_log.specs.declared.error.LogErr.TheVariants as log
use Rattle.record_log.specs.declared.error.Unopened.{Unopened}
use Rattle.record_log.specs.declared.log.Log.{Log}
use Rattle.record_log.specs.Answers as log_answers
use Rattle.record_log.specs.Frames.{reading, frames_of, Fault, IsOpenedAs, ReadsAsOneOf}
use Rattle.record_log.specs.Log.{device_of as log_device}
use Rattle.pair_frames.specs.Pairs.{pairs_in}
use Rattle.pair_reader.specs.declared.wanted.Lengths.{Lengths}
use Rattle.artifact_store.specs.declared.error.OpenErr.{OpenErr}
use Rattle.artifact_store.specs.declared.store.Store.{Store}
use Rattle.artifact_store.specs.Answers.{opens_as, is_fault, raised, IsFaultOf}
use Rattle.artifact_store.specs.Pairs.{IsOneOf}
use Rattle.artifact_store.specs.Store.{device_of}
use Rattle.artifact_store.specs.Opened.{IsOpened, IsUnopened, IsStoreOf, IsUnread}
use Rattle.artifact_store.specs.Laws.{stands_is}
use Rattle.artifact_store.proofs.Carry.{one_of, stand_leaves, then_read, index_fault}

-- ---- where the log was not opened

pub fault_as : {A : Type 0} (fault : LogErr) (read : Result A Fault)
    → log_answers.IsFaultOf (log_answers.raised fault) read → IsFaultOf (opens_as fault) read
fault_as log.NotAStore read is = is
fault_as (log.Damaged at) read is = is
fault_as (log.Full need free) read is = tt
fault_as log.Failed read is = tt
fault_as log.OutOfMemory read is = tt

same_fault : (fault : LogErr) → is_fault (opens_as fault) ≡ log_answers.is_fault fault
same_fault log.NotAStore = refl
same_fault (log.Damaged at) = refl
same_fault (log.Full need free) = refl
same_fault log.Failed = refl
same_fault log.OutOfMemory = refl

pub cause_as : (fault : LogErr) (before now : ℕ)
    → log_answers.Counted before now (log_answers.raised fault)
    → Counts is_fault before now (raised (opens_as fault))
cause_as fault before now x = record {
  later = x.later;
  counted = subst (λ (b : Bool). MatchBool b (Rose before now) (now ≡ before)) (sym (same_fault fault)) x.counted;
}

-- ---- where it was opened, and then read

module _ {S : Type 0} (G : Ghosts S) (start : S) (log : Log S G)
    (opened : G.tells → IsOpenedAs (G.content start) (G.content (log_device log)))
    (images : G.tells → LeavesOnly G.moment G.images_since start (log_device log) (ReadsAsOneOf (G.images start)))
    (cause : G.store_faults (log_device log) ≡ G.store_faults start)
    (only : (c : List ℕ) → G.images_since (log_device log) (G.moment (log_device log)) c → G.images (log_device log) c)
    (counts : (m : ℕ) (c : List ℕ) → m ≤ G.moment (log_device log) → G.images (log_device log) c
    → G.images_since (log_device log) m c) where
  abbrev P : List ℕ → Type 0
  P = ReadsAsOneOf (G.images start)

  read_leaves : (new : S) → OnlyReads G.content G.images G.moment G.images_since (log_device log) new
      → G.tells → LeavesOnly G.moment G.images_since start new P
  read_leaves new reads told =
      then_read G.content G.images G.moment G.images_since start (log_device log) new P (images told) reads only counts

  pub store_opened : (lengths : Lengths) (store : Store S G) → IsStoreOf log lengths store
      → IsOpened start lengths store
  store_opened lengths store is = record {
    pairs = λ told.
        stands_is (G.content start) (frames_of (G.content (log_device log))) (opened told).frames
        ∙ ap (λ (b : List ℕ). Some (pairs_in (frames_of b))) (sym is.reads.same);
    opened = λ told. subst (IsOpenedAs (G.content start)) (sym is.reads.same) (opened told);
    whole = is.whole;
    generation = is.generation;
    foresees = is.foresees;
    images = read_leaves (device_of store) is.reads;
    left = λ told.
        stand_leaves G.moment G.images_since start (device_of store) P (IsOneOf (G.images start))
        (read_leaves (device_of store) is.reads told) (one_of (G.images start));
    cause = is.cause ∙ cause;
  }

  pub store_unopened : (unopened : Unopened S OpenErr) → IsUnread log unopened → IsUnopened G start unopened
  store_unopened unopened is = record {
    fault = λ told. index_fault unopened.fault (reading (G.content start)) is.answers;
    same = λ told long. is.reads.same ∙ (opened told).same long;
    images = read_leaves unopened.store is.reads;
    left = λ told.
        stand_leaves G.moment G.images_since start unopened.store P (IsOneOf (G.images start))
        (read_leaves unopened.store is.reads told) (one_of (G.images start));
    cause = subst (λ (n : ℕ). Counts is_fault n (G.store_faults unopened.store) (raised unopened.fault)) cause is.cause;
  }
