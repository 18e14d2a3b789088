-- How a pool and its log go on.
use Rattle.std.proofs.Common.{◌≡◌, ◌≢◌, inl, inr, ℕ, ◌+◌, ◌-◌, ◌<◌, ◌≤◌, List, [], ◌∷◌, ◌++◌, length, map, take, get_or, refl, sym, ◌∙◌, ap, subst, arith, length-append}
use Rattle.std.specs.Prelude.{◌⊎◌, IsTrue}
use Rattle.std.proofs.lemmas.Bool.{cases_lt}
use Rattle.std.proofs.lemmas.List.{map-append, take_all, take-append-le, length-take, length-take-le, get_or-take, get_or_default, get_or_append_left, get_or-append_right}
use Rattle.store_dev.specs.Moments.{reads_none, reads_both}
use Rattle.store_dev.specs.declared.device.StoreDevice.{Ghosts}
use Rattle.record_log.specs.declared.kind.TheConstants.{CONTENT, GATE}
use Rattle.record_log.specs.declared.log.Log.{Log}
use Rattle.record_log.specs.Kinds.{Entry, entry, size, blobs_in}
use Rattle.record_log.specs.Seats.{seats_from}
use Rattle.record_log.specs.Frames.{frames_of, IsAt}
use Rattle.record_log.specs.Log.{device_of, frames_in, count_of, is_whole}
use Rattle.blob_pool.specs.declared.pool.Pool.{Pool}
use Rattle.blob_pool.specs.Contents.{contents_of, content_at, places_from}
use Rattle.blob_pool.specs.Known.{places_in, digests_in, count_in, HoldsTheSame, known_in, IsPoolOf, Knows, OnlyReadsLog}
use Rattle.blob_pool.specs.Blobs.{blobs_in-push, blobs_in-same, places_from-push, places_from-same, length-contents_of, length-places_from, place_of, content_of}

-- ---- the pool of frames

-- it goes on behind a frame of kind 2 that it learns
pub pool_next : (old new : Pool) (fs : List Entry) (e : Entry) (number : ℕ) → IsPoolOf old fs
    → e.kind ≡ CONTENT → number ≡ length fs
    → places_in new ≡ places_in old ++ number ∷ [] → digests_in new ≡ digests_in old ++ e.key ∷ []
    → IsPoolOf new (fs ++ e ∷ [])
pool_next old new fs e number pool kind at places digests =
    let from_zero : number ≡ 0 + length fs = omega (arith, at) in
    record {
      places = places ∙ (λ i. pool.places i ++ from_zero i ∷ []) ∙ sym (places_from-push 0 fs e kind);
      digests = digests ∙ ap (λ (l : List (List ℕ)). l ++ e.key ∷ []) pool.digests
          ∙ sym (map-append (λ (x : Entry). x.key) (blobs_in fs) (e ∷ []))
          ∙ ap (map (λ (x : Entry). x.key)) (sym (blobs_in-push fs e kind));
    }

-- and behind another frame it stays
pub pool_stays : (pool : Pool) (fs : List Entry) (e : Entry) → IsPoolOf pool fs → e.kind ≢ CONTENT
    → IsPoolOf pool (fs ++ e ∷ [])
pool_stays pool fs e x other = record {
  places = x.places ∙ sym (places_from-same 0 fs e other);
  digests = x.digests ∙ ap (map (λ (y : Entry). y.key)) (sym (blobs_in-same fs e other));
}

pub pool_held : (old new : Pool) (fs : List Entry) → IsPoolOf old fs → HoldsTheSame old new
    → IsPoolOf new fs
pool_held old new fs x same =
    record { places = same.places ∙ x.places; digests = same.digests ∙ x.digests }

-- places that are below a count, and one more
pub below_push : (places : List ℕ) (count more place : ℕ)
    → ((i : ℕ) → i < length places → get_or places i 0 < count) → count ≤ more → place < more
    → (i : ℕ) → i < length (places ++ place ∷ []) → get_or (places ++ place ∷ []) i 0 < more
below_push places count more place below le lt i inside = elim (cases_lt i (length places)) [
  | inl less ↦ let same = get_or_append_left places (place ∷ []) 0 i less in omega (arith, below i less, same)
  | inr past ↦
      let zero_is : i - length places ≡ 0 = omega (arith, length-append places (place ∷ [])) in
      let same = get_or-append_right places (place ∷ []) (length places) i 0 refl past ∙ ap (λ (k : ℕ). get_or (place ∷ []) k 0) zero_is in
      omega (arith, same)
]

-- ---- calls that only read

pub reads_log_none : {S : Type 0} {G : Ghosts S} (log : Log S G) → OnlyReadsLog log log
reads_log_none {G = G} log =
    record { device = reads_none G.content G.images G.moment G.images_since (device_of log); whole = refl; count = refl; room = refl; probes = omega arith }

pub reads_log_both : {S : Type 0} {G : Ghosts S} (a b d : Log S G) → OnlyReadsLog a b
    → OnlyReadsLog b d → OnlyReadsLog a d
reads_log_both {G = G} a b d x y = record {
  device = reads_both G.content G.images G.moment G.images_since (device_of a) (device_of b) (device_of d) x.device y.device;
  whole = y.whole ∙ x.whole;
  count = y.count ∙ x.count;
  room = y.room ∙ x.room;
  probes = omega (arith, x.probes, y.probes);
}

-- they leave the frames
pub frames_read : {S : Type 0} {G : Ghosts S} (old new : Log S G) → OnlyReadsLog old new
    → frames_in new ≡ frames_in old
frames_read old new reads = ap frames_of reads.device.same

pub known_read : {S : Type 0} {G : Ghosts S} (old new : Log S G) → OnlyReadsLog old new
    → known_in new ≡ known_in old
known_read old new reads = λ i. take (reads.count i) (frames_read old new reads i)

-- and the pool is still that of the log
pub knows_read : {S : Type 0} {G : Ghosts S} (pool : Pool) (old new : Log S G) → Knows pool old
    → OnlyReadsLog old new → Knows pool new
knows_read pool old new knows reads = record {
  told = λ told. subst (IsPoolOf pool) (sym (known_read old new reads)) (knows.told told);
  below = λ i inside. omega (arith, knows.below i inside, reads.count);
  even = knows.even;
}

pub knows_held : {S : Type 0} {G : Ghosts S} (old new : Pool) (log : Log S G) → Knows old log
    → HoldsTheSame old new → Knows new log
knows_held old new log knows same = record {
  told = λ told. pool_held old new (known_in log) (knows.told told) same;
  below = subst (λ (l : List ℕ). (i : ℕ) → i < length l → get_or l i 0 < count_of log) (sym same.places) knows.below;
  even = ap length same.digests ∙ knows.even ∙ sym (ap length same.places);
}

-- ---- a log that was appended to

-- one that knows no more frames than before, although some may stand behind these
pub knows_behind : {S : Type 0} {G : Ghosts S} (pool : Pool) (old new : Log S G) (more : List Entry)
    → Knows pool old → count_of new ≡ count_of old
    → (G.tells → (frames_in new ≡ frames_in old) ⊎ (frames_in new ≡ frames_in old ++ more))
    → Knows pool new
knows_behind pool old new more knows same after = record {
  told = λ told.
      let few : count_of old ≤ length (frames_in old) = (old.front told).few in
      let known : known_in new ≡ known_in old = elim (after told) [
        | inl is ↦ (λ i. take (same i) (is i))
        | inr is ↦ (λ i. take (same i) (is i)) ∙ take-append-le (count_of old) (frames_in old) more few
      ] in
      subst (IsPoolOf pool) (sym known) (knows.told told);
  below = λ i inside. omega (arith, knows.below i inside, same);
  even = knows.even;
}

-- one that knows one content more, which the pool learned
pub knows_next : {S : Type 0} {G : Ghosts S} (pool next : Pool) (old new : Log S G) (e : Entry)
    → Knows pool old
    → count_of new ≡ count_of old + 1 → (G.tells → known_in new ≡ known_in old ++ e ∷ [])
    → e.kind ≡ CONTENT
    → places_in next ≡ places_in pool ++ count_of old ∷ []
    → digests_in next ≡ digests_in pool ++ e.key ∷ [] → Knows next new
knows_next pool next old new e knows count known kind places digests = record {
  told = λ told.
      let few : count_of old ≤ length (frames_in old) = (old.front told).few in
      subst (IsPoolOf next) (sym (known told))
      (pool_next pool next (known_in old) e (count_of old) (knows.told told) kind (sym (length-take-le (count_of old) (frames_in old) few)) places digests);
  below = subst (λ (l : List ℕ). (i : ℕ) → i < length l → get_or l i 0 < count_of new) (sym places)
      (below_push (places_in pool) (count_of old) (count_of new) (count_of old) knows.below (omega (arith, count)) (omega (arith, count)));
  even = omega (arith, ap length places, ap length digests, knows.even, length-append (places_in pool) (count_of old ∷ []), length-append (digests_in pool) (e.key ∷ []));
}

-- ---- a log that is whole

length-seats_from : (gate : ℕ) (es : List Entry) → length (seats_from gate es) ≡ length es
length-seats_from gate [] = refl
length-seats_from gate (e ∷ es) = omega (arith, length-seats_from (gate + 1 + size e) es)

-- it knows all frames
pub known_whole : {S : Type 0} {G : Ghosts S} (log : Log S G) → IsTrue (is_whole log) → G.tells
    → known_in log ≡ frames_in log
known_whole log whole told =
    let count : count_of log ≡ length (frames_in log) = ap length (log.kept whole told).index.seats ∙ length-seats_from GATE (frames_in log) in
    take_all (count_of log) (frames_in log) (omega (arith, count))

-- ---- what a pool knows of a content

-- a frame of kind 2 with that content stands at that place
pub record IsBlobAt (fs known : List Entry) (i number : ℕ) (e : Entry) : Type 0 where
  pub at : IsAt fs number e
  pub kind : e.kind ≡ CONTENT
  pub value : e.value ≡ content_at known i

pub contents_in : (pool : Pool) (fs : List Entry) → IsPoolOf pool fs
    → count_in pool ≡ length (contents_of fs)
contents_in pool fs x =
    omega (arith, ap length x.places, length-places_from 0 fs, length-contents_of fs)

blob_of : (fs : List Entry) (n i : ℕ) → i < length (contents_of (take n fs))
    → (e : Entry) × IsBlobAt fs (take n fs) i (get_or (places_from 0 (take n fs)) i 0) e
blob_of fs n i lt =
    let d = entry 0 [] [] in
    let k = get_or (places_from 0 (take n fs)) i 0 in
    let x = place_of (take n fs) i d lt in
    let few : k < n = omega (arith, x.inside, length-take n fs) in
    let inside : k < length fs = omega (arith, x.inside, length-take n fs) in
    let same = get_or-take n fs k d few in (
      get_or fs k d,
      record {
        at = (inside, get_or_default fs k d (get_or fs k d) inside);
        kind = ap (λ (e : Entry). e.kind) (sym same) ∙ x.kind;
        value = ap (λ (e : Entry). e.value) (sym same) ∙ content_of (take n fs) i k d lt x;
      },
    )

pub blob_at : {S : Type 0} {G : Ghosts S} (pool : Pool) (log : Log S G) (i : ℕ) → Knows pool log
    → G.tells → i < count_in pool
    → (e : Entry) × IsBlobAt (frames_in log) (known_in log) i (get_or (places_from 0 (known_in log)) i 0) e
blob_at pool log i knows told lt =
    blob_of (frames_in log) (count_of log) i (omega (arith, lt, contents_in pool (known_in log) (knows.told told)))
