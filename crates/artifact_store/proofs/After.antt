-- A store whose log was appended to.
use Rattle.std.proofs.Common.{◌≡◌, ◌⊎◌, inl, inr, ⊎_elim, ℕ, ◌<◌, ◌≤◌, Bool, List, [], ◌∷◌, ◌++◌, length, map, take, get_or, Some, Err, refl, sym, ◌∙◌, ap, subst, arith, length-append}
use Rattle.std.specs.Prelude.{IsTrue}
use Rattle.std.proofs.Math.Seq.{take-length}
use Rattle.std.proofs.lemmas.List.{append-nil, take_all, take-append-le}
use Rattle.store_dev.specs.Device.{LeavesOnly}
use Rattle.store_dev.specs.Moments.{reads_leave, leaves_then}
use Rattle.store_dev.specs.declared.device.StoreDevice.{Ghosts}
use Rattle.cache_api.specs.declared.error.CacheErr.{CacheErr}
use Rattle.cache_api.specs.declared.error.CacheErr.TheVariants.{Full, Failed, OutOfMemory}
use Rattle.cache_api.specs.Cache.{HitsStay, CacheReads, StaysWhole, AllAfter, IsFindErr}
use Rattle.cache_api.specs.Moments.{Leaves}
use Rattle.cache_api.specs.Pairs.{Pair, IsFirstPart, IsPartSince}
use Rattle.cache_api.proofs.Firsts.{all_part, added_part}
use Rattle.record_log.specs.declared.log.Log.{Log}
use Rattle.record_log.specs.Kinds.{Entry, generation_after, generation_from, generation_of}
use Rattle.record_log.specs.Frames.{opened, text_of}
use Rattle.record_log.specs.Batch.{IsBeforeOrAll}
use Rattle.record_log.specs.Several.{images_read}
use Rattle.record_log.specs.Texts.{text_of_append}
use Rattle.record_log.specs.Log.{frames_in as log_frames, count_of, is_whole}
use Rattle.blob_pool.specs.Known.{known_in}
use Rattle.blob_pool.specs.Laws.{frames_read, known_whole}
use Rattle.pair_frames.specs.Pairs.{pairs_in}
use Rattle.artifact_reader.specs.Parts.{shown_in}
use Rattle.pair_reader.specs.Answers.{HitIsWithin}
use Rattle.pair_writer.specs.declared.frame.StagedFrame.{StagedFrame}
use Rattle.pair_writer.specs.declared.frame.StagedFrame.TheVariants.{Content, Record}
use Rattle.pair_writer.specs.Held.{staged_entry, staged_entries}
use Rattle.pair_index.specs.declared.index.Index.{Index}
use Rattle.artifact_store.specs.declared.store.Store.{Store}
use Rattle.pair_index.specs.Costs as costs
use Rattle.pair_index.specs.Index.{lengths_in, IsIndexOf, Indexes, IndexesTheSame}
use Rattle.pair_index.specs.Keys.{IsKeysOf, numbers_from, is_hashed, print_of, passing}
use Rattle.artifact_store.specs.Laws.{told_is, images_told}
use Rattle.artifact_store.specs.Pairs.{told_as}
use Rattle.artifact_store.specs.Store.{device_of, frames_of, state_of, moment_of, left_of, cost_of, stands, shows, OnlyReadsStore}
use Rattle.artifact_store.proofs.Carry.{store_leaves}
use Rattle.artifact_store.proofs.Shown.{hit_more, hit_same}

-- ---- the index

held_keys : (old new : Index) (pairs : List Pair) → IndexesTheSame old new → IsKeysOf old.keys pairs
    → IsKeysOf new.keys pairs
held_keys old new pairs same x = record {
  lens = same.lens ∙ x.lens;
  numbers = same.numbers ∙ x.numbers ∙ ap (λ l. numbers_from (is_hashed l) 0 pairs) (sym same.lengths);
  prints = same.prints ∙ x.prints ∙ ap (λ l. map print_of (passing (is_hashed l) pairs)) (sym same.lengths);
}

pub index_held : (old new : Index) (fs : List Entry) → IndexesTheSame old new → IsIndexOf old fs
    → IsIndexOf new fs
index_held old new fs same x =
    record { frames = same.frames ∙ x.frames; keys = held_keys old new (pairs_in fs) same x.keys }

pub indexes_held : {S : Type 0} {G : Ghosts S} (old new : Index) (log : Log S G) → Indexes old log
    → IndexesTheSame old new → Indexes new log
indexes_held old new log x same = record {
  told = λ told. index_held old new (known_in log) same (x.told told);
  below = subst (λ (l : List ℕ). (i : ℕ) → i < length l → get_or l i 0 < count_of log) (sym same.frames) x.below;
}

-- of a log that knows no more frames than before, although some may stand behind these
pub indexes_behind : {S : Type 0} {G : Ghosts S} (index : Index) (old new : Log S G) (more : List Entry)
    → Indexes index old → count_of new ≡ count_of old
    → (G.tells → (log_frames new ≡ log_frames old) ⊎ (log_frames new ≡ log_frames old ++ more))
    → Indexes index new
indexes_behind index old new more x same after = record {
  told = λ told.
      let few : count_of old ≤ length (log_frames old) = (old.front told).few in
      let known : known_in new ≡ known_in old = elim (after told) [
        | inl is ↦ (λ i. take (same i) (is i))
        | inr is ↦ (λ i. take (same i) (is i)) ∙ take-append-le (count_of old) (log_frames old) more few
      ] in
      subst (IsIndexOf index) (sym known) (x.told told);
  below = λ i inside. omega (arith, x.below i inside, same);
}

-- of a log that is whole, and is so behind an append
pub known_after : {S : Type 0} {G : Ghosts S} (old new : Log S G) (more : List Entry) → IsTrue (is_whole old)
    → G.tells → IsTrue (is_whole new) → log_frames new ≡ log_frames old ++ more
    → known_in new ≡ known_in old ++ more
known_after old new more whole told still is =
    known_whole new still told ∙ is ∙ ap (λ (l : List Entry). l ++ more) (sym (known_whole old whole told))

-- ---- generations

no_generation : (last : ℕ) (f : StagedFrame) → generation_after last (staged_entry f) ≡ last
no_generation last (Content digest bytes) = refl
no_generation last (Record print text) = refl

from_staged : (last : ℕ) (frames : List StagedFrame) → generation_from last (staged_entries frames) ≡ last
from_staged last [] = refl
from_staged last (f ∷ frames) =
    ap (λ (n : ℕ). generation_from n (staged_entries frames)) (no_generation last f) ∙ from_staged last frames

from_both : (last : ℕ) (fs gs : List Entry)
    → generation_from last (fs ++ gs) ≡ generation_from (generation_from last fs) gs
from_both last [] gs = refl
from_both last (f ∷ fs) gs = from_both (generation_after last f) fs gs

-- contents and records leave it
pub generation_same : (fs : List Entry) (frames : List StagedFrame)
    → generation_of (fs ++ staged_entries frames) ≡ generation_of fs
unfolding generation_of
generation_same fs frames = from_both 0 fs (staged_entries frames) ∙ from_staged (generation_from 0 fs) frames

-- ---- hits

pub hits_after : {S : Type 0} {G : Ghosts S} (old new : Store S G) (more : List Entry)
    → (G.tells → (frames_of new ≡ frames_of old) ⊎ (frames_of new ≡ frames_of old ++ more))
    → HitsStay G.tells stands shows old new
hits_after old new more after = record {
  stays = λ hit stood told. ⊎_elim
      (λ is. subst (λ (l : List Entry). HitIsWithin (text_of l) hit) (sym is) (stood told))
      (λ is. subst (λ (t : List ℕ). HitIsWithin t hit) (sym (ap text_of is ∙ text_of_append (frames_of old) more))
      (hit_more (text_of (frames_of old)) (opened more) hit (stood told)))
      (after told);
  same = λ told hit stood. ⊎_elim
      (λ is. ap (λ (l : List Entry). shown_in (text_of l) hit) is)
      (λ is. ap (λ (t : List ℕ). shown_in t hit) (ap text_of is ∙ text_of_append (frames_of old) more)
      ∙ hit_same (text_of (frames_of old)) (opened more) hit (stood told))
      (after told);
}

-- ---- calls that only read

pub cache_reads : {S : Type 0} {G : Ghosts S} (old new : Store S G) → IsTrue (is_whole old.log)
    → ((c : List ℕ) → G.images_since (device_of old) (G.moment (device_of old)) c → G.images (device_of old) c)
    → OnlyReadsStore old new
    → CacheReads G.tells state_of cost_of stands shows moment_of left_of told_as old new
cache_reads {G = G} old new whole only reads =
    let same = frames_read old.log new.log reads.log in
    record {
      pairs = λ told. ap pairs_in same;
      lasting = λ told. ap (λ (l : List Entry). length (pairs_in l)) same;
      sure = λ told. reads.log.room;
      cost_same = λ told key. (λ i. costs.cost_of (lengths_in (reads.index i)) (same i) key);
      hits = hits_after old new [] (λ told. inl same);
      left = λ told. store_leaves old new
          (λ c. told_as old.generation c ≡ Some (pairs_in (frames_of old)))
          (λ c. IsPartSince (length (pairs_in (frames_of old))) (pairs_in (frames_of old)) (told_as old.generation c))
          (reads_leave G.content G.images G.moment G.images_since (device_of old) (device_of new)
          (λ c. told_as old.generation c ≡ Some (pairs_in (frames_of old))) reads.log.device only
          (images_told (old.log.kept whole told) old.generation (old.same whole told)))
          (λ c is. all_part (pairs_in (frames_of old)) (told_as old.generation c) is);
      keeps = record { base = reads.generation; room = omega (arith, reads.log.room); probes = reads.log.probes };
    }

-- ---- errors

pub stays_err : (T : Type 0) (e : CacheErr) (before now : Bool) → IsFindErr e → StaysWhole {T = T} (Err e) before now
stays_err T Full before now is = absurd is
stays_err T Failed before now is = tt
stays_err T OutOfMemory before now is = tt

pub after_err : (T : Type 0) (e : CacheErr) (before added now : List Pair) → IsFindErr e
    → (e ≡ Failed) ⊎ (now ≡ before) → (now ≡ before) ⊎ (now ≡ before ++ added)
    → AllAfter {T = T} (Err e) (length before) before added now
after_err T Full before added now is same after = absurd is
after_err T Failed before added now is same after = ⊎_elim
    (λ none. (length before, omega arith, none ∙ sym (take-append-le (length before) before added (omega arith) ∙ take-length before)))
    (λ all. (length (before ++ added), omega (arith, length-append before added), all ∙ sym (take-length (before ++ added))))
    after
after_err T OutOfMemory before added now is same after = ⊎_elim (λ other. absurd (cc)) (λ none. none) same

-- it has no fewer pairs
pub no_fewer : (before added now : List Pair) → (now ≡ before) ⊎ (now ≡ before ++ added) → length before ≤ length now
no_fewer before added now after = ⊎_elim
    (λ none. omega (arith, ap length none))
    (λ all. omega (arith, ap length all, length-append before added))
    after

-- ---- images of a store while pairs are added

pub first_part : (generation : ℕ) (fs gs : List Entry) (pairs : List Pair) → generation_of fs ≡ generation
    → generation_of (fs ++ gs) ≡ generation → pairs_in (fs ++ gs) ≡ pairs_in fs ++ pairs
    → (c : List ℕ) → IsBeforeOrAll fs gs c → IsFirstPart (pairs_in fs) pairs (told_as generation c)
first_part generation fs gs pairs before after added c (inl is) =
    (0, omega arith, told_is generation c fs is before ∙ ap (λ (l : List Pair). Some l) (sym (append-nil (pairs_in fs))))
first_part generation fs gs pairs before after added c (inr is) = (
  length pairs,
  omega arith,
  told_is generation c (fs ++ gs) is after
      ∙ ap (λ (l : List Pair). Some l) (added ∙ ap (λ (l : List Pair). pairs_in fs ++ l) (sym (take_all (length pairs) pairs (omega arith)))),
)

module _ {S : Type 0} {G : Ghosts S} (old mid new : Store S G) (whole : IsTrue (is_whole old.log)) (told : G.tells)
    (only : (c : List ℕ) → G.images_since (device_of old) (G.moment (device_of old)) c → G.images (device_of old) c)
    (reads : OnlyReadsStore old mid) where
  -- one that was read alone
  pub images_before : (gs : List Entry)
      → LeavesOnly G.moment G.images_since (device_of old) (device_of mid) (IsBeforeOrAll (frames_of old) gs)
  images_before gs =
      reads_leave G.content G.images G.moment G.images_since (device_of old) (device_of mid)
      (IsBeforeOrAll (frames_of old) gs) reads.log.device only
      (λ c now. inl (images_read (old.log.kept whole told) c now))

  -- and then appended to
  pub images_after : (gs : List Entry)
      → LeavesOnly G.moment G.images_since (device_of mid) (device_of new) (IsBeforeOrAll (frames_of mid) gs)
      → LeavesOnly G.moment G.images_since (device_of old) (device_of new) (IsBeforeOrAll (frames_of old) gs)
  images_after gs x =
      let same = frames_read old.log mid.log reads.log in
      leaves_then G.moment G.images_since (device_of old) (device_of mid) (device_of new)
      (IsBeforeOrAll (frames_of old) gs) (IsBeforeOrAll (frames_of mid) gs) (IsBeforeOrAll (frames_of old) gs)
      (images_before gs) x (λ c p. p) (λ c p. subst (λ (l : List Entry). IsBeforeOrAll l gs c) same p)

  -- what they stand for
  pub put_left : (gs : List Entry) (pairs : List Pair) → generation_of (frames_of old ++ gs) ≡ generation_of (frames_of old)
      → pairs_in (frames_of old ++ gs) ≡ pairs_in (frames_of old) ++ pairs
      → LeavesOnly G.moment G.images_since (device_of mid) (device_of new) (IsBeforeOrAll (frames_of mid) gs)
      → Leaves moment_of left_of old new
      (λ c. IsPartSince (length (pairs_in (frames_of old))) (pairs_in (frames_of old) ++ pairs) (told_as old.generation c))
  put_left gs pairs generation added x =
      let here : generation_of (frames_of old) ≡ old.generation = sym (old.same whole told) in
      store_leaves old new (IsBeforeOrAll (frames_of old) gs)
      (λ c. IsPartSince (length (pairs_in (frames_of old))) (pairs_in (frames_of old) ++ pairs) (told_as old.generation c))
      (images_after gs x)
      (λ c is. added_part (pairs_in (frames_of old)) pairs (told_as old.generation c)
      (first_part old.generation (frames_of old) gs pairs here (generation ∙ here) added c is))

-- a call that only reads, and one behind it that adds frames
pub after_both : {S : Type 0} {G : Ghosts S} (old mid new : Store S G) (gs : List Entry) → OnlyReadsStore old mid
    → (frames_of new ≡ frames_of mid) ⊎ (frames_of new ≡ frames_of mid ++ gs)
    → (frames_of new ≡ frames_of old) ⊎ (frames_of new ≡ frames_of old ++ gs)
after_both old mid new gs reads after =
    let same = frames_read old.log mid.log reads.log in
    subst (λ (l : List Entry). (frames_of new ≡ l) ⊎ (frames_of new ≡ l ++ gs)) same after
