-- The store that is read, from its opening to the end, and both stores then.
use Rattle.std.proofs.Common.{◌≡◌, ◌≤◌, inl, ℕ, List, Option, Some, Result, Ok, Err, ◌∙◌, ap}
use Rattle.std.specs.Prelude.{OnOk, IfErr}
use Rattle.store_dev.specs.Device.{LeavesOnly, Only}
use Rattle.store_dev.specs.declared.device.StoreDevice.{Ghosts}
use Rattle.cache_api.specs.Pairs.{Pair}
use Rattle.record_log.specs.Frames.{reading, IsSound}
use Rattle.artifact_store.specs.declared.store.Store.{Store}
use Rattle.artifact_store.specs.Store.{device_of, OnlyReadsStore}
use Rattle.artifact_store.proofs.Carry.{then_read}
use Rattle.compact.specs.declared.error.CompactErr.{CompactErr}
use Rattle.compact.specs.declared.error.CompactErr.TheVariants.{From, To, NoRoom, LastGeneration, Failed, OutOfMemory}
use Rattle.compact.specs.declared.kept.Kept.{Kept}
use Rattle.compact.specs.Current.{generation_in}
use Rattle.compact.specs.Left.{ReadsAs, StillRests, IsUnsealed, IsEither, IsAfter}
use Rattle.compact.specs.Sources.{IsSource, LeavesRefused}
use Rattle.compact.proofs.Seeking.{whole_read}
use Rattle.compact.proofs.Stepping.{unsealed_same}

-- ---- the store that is read

module _ {S : Type 0} (G : Ghosts S) (from : S) (source new : Store S G) (generation : ℕ)
    (is : IsSource from source generation) (reads : OnlyReadsStore source new)
    (only : (c : List ℕ) → G.images_since (device_of source) (G.moment (device_of source)) c → G.images (device_of source) c)
    (counts : (m : ℕ) (c : List ℕ) → m ≤ G.moment (device_of source) → G.images (device_of source) c → G.images_since (device_of source) m c)
    (told : G.tells) where
  pub source_left : LeavesOnly G.moment G.images_since from (device_of new) (ReadsAs (G.content from))
  source_left =
      then_read G.content G.images G.moment G.images_since from (device_of source) (device_of new)
      (ReadsAs (G.content from)) (is.images told) reads.log.device only counts

  pub source_still : G.images (device_of source) (G.content (device_of source))
      → StillRests G from (device_of new)
  source_still now =
      let images = is.images told in
      let was : reading (G.content (device_of source)) ≡ reading (G.content from) =
      images.each (G.content (device_of source)) (counts (G.moment from) (G.content (device_of source)) images.later now) in
      let kept = new.log.kept (whole_read source new reads is.whole) told in
      record {
        reads = ap reading reads.log.device.same ∙ was;
        rests = record { sound = kept.read; alone = kept.durable };
      }

pub on_ok : {T E : Type 0} (r : Result T E) (P : Type 0) → P → OnOk r P
on_ok (Ok x) P p = p
on_ok (Err e) P p = tt

-- ---- the store that is written, where nothing was done

pub unsealed_now : (bytes : List ℕ) (images : List ℕ → Type 0) → IsSound bytes
    → Only bytes images → (t : List ℕ) → images t → IsUnsealed (generation_in bytes) t
unsealed_now bytes images sound alone t now =
    unsealed_same bytes t sound (ap reading (alone t now))

-- ---- both, when it is done

pub after_old : (e : CompactErr) (old new : List Pair) (p : Option (List Pair)) → p ≡ Some old
    → IsAfter (Err e) old new p
after_old (From fault) old new p is = inl is
after_old (To fault) old new p is = inl is
after_old (NoRoom n f) old new p is = is
after_old LastGeneration old new p is = is
after_old Failed old new p is = inl is
after_old OutOfMemory old new p is = inl is

refused_after : (e : CompactErr) (images U : List ℕ → Type 0) (t : List ℕ) (old new : List Pair)
    (p : Option (List Pair)) → LeavesRefused e images U → images t → (U t → p ≡ Some old)
    → IsEither old new p → IsAfter (Err e) old new p
refused_after (From fault) images U t old new p x now was either = either
refused_after (To fault) images U t old new p x now was either = either
refused_after (NoRoom n f) images U t old new p x now was either = was (x t now)
refused_after LastGeneration images U t old new p x now was either = was (x t now)
refused_after Failed images U t old new p x now was either = either
refused_after OutOfMemory images U t old new p x now was either = either

pub after_all : (r : Result Kept CompactErr) (A : Type 0) (images U : List ℕ → Type 0) (t : List ℕ)
    (old new : List Pair) (p : Option (List Pair)) → OnOk r A → (A → p ≡ Some new)
    → IfErr r (λ e. LeavesRefused e images U) → images t → (U t → p ≡ Some old)
    → IsEither old new p → IsAfter r old new p
after_all (Ok k) A images U t old new p a is x now was either = is a
after_all (Err e) A images U t old new p a is x now was either =
    refused_after e images U t old new p x now was either
