-- What the images of a store that is whole stand for.
use Rattle.std.proofs.Common.{◌≡◌, ◌≤◌, ℕ, Bool, true, false, cond, List, length, Option, Some, None, Ok, refl, sym, ◌∙◌, ap, arith}
use Rattle.std.specs.Prelude.{◌==◌}
use Rattle.std.proofs.lemmas.Bool.{eq-eqb}
use Rattle.store_dev.specs.Device.{LeavesOnly}
use Rattle.store_dev.specs.declared.device.StoreDevice.{Ghosts}
use Rattle.cache_api.specs.Moments.{Leaves}
use Rattle.cache_api.specs.Pairs.{Pair, IsPartSince}
use Rattle.cache_api.proofs.Firsts.{all_part}
use Rattle.record_log.specs.Kinds.{Entry, generation_of}
use Rattle.record_log.specs.Frames.{reading, frames_of}
use Rattle.record_log.specs.declared.mark.LogMark.{LogMark}
use Rattle.record_log.specs.Kept.{Kept}
use Rattle.record_log.specs.Several.{images_read}
use Rattle.pair_frames.specs.Pairs.{pairs_in}
use Rattle.artifact_store.specs.declared.store.Store.{Store}
use Rattle.artifact_store.specs.Pairs.{stands_for, told_as}
use Rattle.artifact_store.specs.Store.{device_of, moment_of, left_of}

-- ---- bytes that are a store

pub stands_is : (bytes : List ℕ) (es : List Entry) → reading bytes ≡ Ok es
    → stands_for bytes ≡ Some (pairs_in es)
unfolding stands_for
stands_is bytes es is = rw (is, stands_for) refl

pub frames_are : (bytes : List ℕ) (es : List Entry) → reading bytes ≡ Ok es → frames_of bytes ≡ es
unfolding frames_of
frames_are bytes es is = rw (is, frames_of) refl

pub told_is : (generation : ℕ) (bytes : List ℕ) (es : List Entry) → reading bytes ≡ Ok es
    → generation_of es ≡ generation → told_as generation bytes ≡ Some (pairs_in es)
unfolding told_as
told_is generation bytes es is same =
    let here : generation_of (frames_of bytes) ≡ generation =
    ap generation_of (frames_are bytes es is) ∙ same in
    ap (λ (b : Bool). cond b (stands_for bytes) None)
    (eq-eqb (generation_of (frames_of bytes)) generation here)
    ∙ stands_is bytes es is

told_by : (b : Bool) (all : Option (List Pair)) (pairs : List Pair)
    → cond b all None ≡ Some pairs → all ≡ Some pairs
told_by true all pairs is = is
told_by false all pairs is = absurd cc

-- what is told by a generation, the bytes stand for
pub told_stands : (generation : ℕ) (bytes : List ℕ) (pairs : List Pair)
    → told_as generation bytes ≡ Some pairs → stands_for bytes ≡ Some pairs
unfolding told_as
told_stands generation bytes pairs is =
    told_by (generation_of (frames_of bytes) == generation) (stands_for bytes) pairs is

-- ---- images of a store

pub images_stand : {bytes : List ℕ} {images : List ℕ → Type 0} {mark : LogMark}
    → Kept bytes images mark → (c : List ℕ) → images c
    → stands_for c ≡ Some (pairs_in (frames_of bytes))
images_stand kept c now = stands_is c _ (images_read kept c now)

pub images_told : {bytes : List ℕ} {images : List ℕ → Type 0} {mark : LogMark}
    → Kept bytes images mark → (generation : ℕ) → generation ≡ generation_of (frames_of bytes)
    → (c : List ℕ) → images c → told_as generation c ≡ Some (pairs_in (frames_of bytes))
images_told kept generation same c now = told_is generation c _ (images_read kept c now) (sym same)

-- as a cache: a crash leaves all its pairs
pub all_told : {bytes : List ℕ} {images : List ℕ → Type 0} {mark : LogMark}
    → Kept bytes images mark → (generation : ℕ) → generation ≡ generation_of (frames_of bytes)
    → (c : List ℕ) → images c
    → IsPartSince (length (pairs_in (frames_of bytes))) (pairs_in (frames_of bytes)) (told_as generation c)
all_told {bytes = bytes} kept generation same c now =
    all_part (pairs_in (frames_of bytes)) (told_as generation c) (images_told kept generation same c now)

-- no more of them last, and no more room is sure, than there is
pub no_more : (n : ℕ) → n ≤ n
no_more n = omega arith

-- what a crash leaves of a store, it leaves of its device
pub at_device : {S : Type 0} {G : Ghosts S} (a b : Store S G) (P : List ℕ → Type 0)
    → Leaves moment_of left_of a b P
    → LeavesOnly G.moment G.images_since (device_of a) (device_of b) P
at_device a b P x = record {
  later = x.later.first;
  each = x.each;
  before = λ m c le left.
      x.before (record { first = m; second = 0 }) c
      (record { first = le; second = omega arith }) left;
}
