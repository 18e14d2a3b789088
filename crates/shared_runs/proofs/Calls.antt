-- What the calls of a run leave of its cache.
use Rattle.std.proofs.Common.{◌≡◌, ⊎_elim, ◌≤◌, true, List, length, take, ℕ, Option, Some, Result}
use Rattle.std.proofs.Common.{Ok, Err, ◌∙◌, ap, arith, length-append}
use Rattle.std.specs.Prelude.{is_some, IfOk, OnOk}
use Rattle.store_dev.specs.declared.device.StoreDevice.{Ghosts as DeviceGhosts}
use Rattle.cache_api.specs.declared.error.CacheErr.{CacheErr}
use Rattle.cache_api.specs.declared.hit.Hit.{Hit}
use Rattle.cache_api.specs.Cache.{StaysWhole}
use Rattle.cache_api.specs.Found.{found}
use Rattle.cache_api.specs.Pairs.{Pair}
use Rattle.cache_api.specs.Reading.{artifact_in}
use Rattle.codes.specs.Views.{found_as}
use Rattle.globs.specs.declared.out_set.OutSet.{OutSet}
use Rattle.artifact_reader.specs.Parts.{shown_in}
use Rattle.record_log.specs.Kinds.{Entry}
use Rattle.record_log.specs.Frames.{reading, frames_of, text_of}
use Rattle.pair_frames.specs.Pairs.{pairs_in}
use Rattle.pair_index.specs.Seen.{seen_pairs}
use Rattle.artifact_store.specs.declared.mark.StoreMark.{StoreMark}
use Rattle.shared_runs.specs.declared.store.SharedStore.{SharedStore}
use Rattle.shared_runs.specs.declared.turn.Shared.{Ghosts}
use Rattle.shared_runs.specs.declared.turns.Turns.{Turns}
use Rattle.shared_runs.specs.Frames.{StartWith}
use Rattle.shared_runs.specs.Marked.{IsKept}
use Rattle.shared_runs.specs.Passes.{PassesTurn}
use Rattle.shared_runs.specs.Shared.{file_of, frames_in, coming_in}
use Rattle.shared_runs.specs.Views.{pairs_at, view_of, Sees}
use Rattle.shared_runs.proofs.Fronts.{holds_first, holds_starts}
use Rattle.shared_runs.proofs.Leaving.{true_apart}
use Rattle.shared_runs.proofs.MemTurns.{frames_is, sound_is}
use Rattle.shared_runs.proofs.Passed.{pairs_start, sees_below}
use Rattle.shared_runs.proofs.Seeing.{seen_front}

pub on_ok : {X E : Type 0} (r : Result X E) (A : Type 0) (P Q : X → Type 0) → OnOk r A → IfOk r P
    → (A → (x : X) → P x → Q x) → IfOk r Q
on_ok (Ok x) A P Q a p to = to a x p
on_ok (Err e) A P Q a p to = tt

module _ {H D : Type 0} {G : Ghosts H D} {K : DeviceGhosts D} (old : SharedStore H D G K)
    (new : Turns H)
    (mark : StoreMark) (was : old.turns.mark ≡ Some mark)
    (stays : K.tells → StartWith (frames_in old) (coming_in old)) where
  -- the pairs that are seen are the same among the frames that were to come
  pub seen_coming : K.tells → seen_pairs old.seen (pairs_in (coming_in old))
      ≡ view_of old.seen (file_of old)
  seen_coming told =
      let (more, pairs) = pairs_start (frames_in old) (coming_in old) (stays told) in
      ap (seen_pairs old.seen) pairs ∙ seen_front old.seen (pairs_in (frames_in old)) more
      (sees_below old old mark was told)

  module _ (turn : PassesTurn G K old.turns new) where
    passed_starts : K.tells → StartWith (frames_in old) (frames_of (G.content new.shared))
    passed_starts told = holds_starts (frames_in old) (G.content new.shared)
        (holds_first (frames_in old) (coming_in old) (stays told) (G.content new.shared)
        (turn.first told).file)

    passed_more : K.tells → length (pairs_at (file_of old)) ≤ length
        (pairs_at (G.content new.shared))
    passed_more told =
        let (more, pairs) = pairs_start (frames_in old) (frames_of (G.content new.shared))
        (passed_starts told) in
        omega (arith, ap length pairs, length-append (pairs_at (file_of old)) more)

    pub sees_passed : K.tells → Sees old.seen new.room (G.content new.shared)
    sees_passed told =
        let (n, least, le, is) = (turn.first told).file in
        record {
          sound = sound_is (G.content new.shared) (take n (coming_in old)) is;
          first = omega (arith, (old.sees told).first, passed_more told);
          free = turn.free told (old.sees told).free;
        }

    pub kept_passed : (m : StoreMark) → new.mark ≡ Some m → K.tells
        → IsKept m old.next (G.content new.shared) (G.images new.shared)
    kept_passed m is told = record {
      marked = turn.known m is told;
      few = omega (arith, (old.kept mark was told).few, passed_more told);
    }

    -- the run's cache behind the turn
    abbrev pub passed_store : SharedStore H D G K
    passed_store = record {
      turns = new;
      seen = old.seen;
      next = old.next;
      idle = turn.held;
      undamaged = λ told. turn.undamaged told ∙ old.undamaged told;
      below = old.below;
      sees = sees_passed;
      kept = kept_passed;
    }

    -- where the call was answered, the file is of the frames that were to come
    pub ok_read : {T : Type 0} (result : Result T CacheErr)
        → StaysWhole result true (is_some new.mark) → K.tells
        → OnOk result (reading (G.content new.shared) ≡ Ok (coming_in old))
    ok_read (Ok x) whole told = ⊎_elim
        (λ not_whole. absurd (true_apart (is_some new.mark) whole not_whole))
        (λ read. read told)
        turn.ended
    ok_read (Err e) whole told = tt

    -- it is found in the file what was found among the frames that were to come
    pub found_there : (key : List ℕ) (outs : OutSet) (r : Result (Option Hit) CacheErr)
        → StaysWhole r true (is_some new.mark) → K.tells
        → IfOk r (λ o. found_as (shown_in (text_of (coming_in old))) o
        ≡ found artifact_in key outs (seen_pairs old.seen (pairs_in (coming_in old))))
        → IfOk r (λ o. found_as (shown_in (text_of (frames_of (G.content new.shared)))) o
        ≡ found artifact_in key outs (view_of old.seen (file_of old)))
    found_there key outs r whole told there =
        let coming = coming_in old in
        let content = G.content new.shared in
        on_ok r (reading content ≡ Ok coming)
        (λ o. found_as (shown_in (text_of coming)) o
        ≡ found artifact_in key outs (seen_pairs old.seen (pairs_in coming)))
        (λ o. found_as (shown_in (text_of (frames_of content))) o
        ≡ found artifact_in key outs (view_of old.seen (file_of old)))
        (ok_read r whole told) there
        (λ read o is. ap (λ (l : List Entry). found_as (shown_in (text_of l)) o)
        (frames_is content coming read) ∙ is
        ∙ ap (λ (l : List Pair). found artifact_in key outs l) (seen_coming told))
