-- A turn of a run that puts nothing.
use Rattle.std.proofs.Common.{◌≡◌, ◌⊎◌, inl, inr, ℕ, ◌<◌, ◌≤◌, false, List, ◌++◌, length}
use Rattle.std.proofs.Common.{take, drop, Some, Ok, refl, sym, ◌∙◌, ap, subst, arith, length-take}
use Rattle.std.proofs.Common.{take-append-drop}
use Rattle.std.specs.Prelude.{is_some}
use Rattle.std.proofs.lemmas.Bool.{cases_lt}
use Rattle.std.proofs.lemmas.List.{take-take, take-append-le}
use Rattle.std.proofs.lemmas.List.Elements.{All-weaker}
use Rattle.store_dev.specs.declared.device.StoreDevice.{Ghosts as DeviceGhosts}
use Rattle.cache_api.specs.Cache.{CacheReads, Keeps, HitsStay}
use Rattle.cache_api.specs.Pairs.{Pair, IsPartSince}
use Rattle.cache_api.proofs.Firsts.{all_part}
use Rattle.record_log.specs.Kinds.{Entry}
use Rattle.record_log.specs.Frames.{reading, frames_of, ends, opened, text_of}
use Rattle.record_log.specs.Texts.{text_of_append}
use Rattle.blob_pool.specs.Contents.{contents_of}
use Rattle.pair_frames.specs.Pairs.{pairs_in, pairs_from}
use Rattle.pair_frames.specs.Joins.{pairs_in-append}
use Rattle.pair_reader.specs.Answers.{HitIsWithin}
use Rattle.artifact_reader.specs.Parts.{shown_in}
use Rattle.pair_index.specs.declared.seen.SeenPairs.{SeenPairs}
use Rattle.pair_index.specs.Seen.{seen_pairs}
use Rattle.shared_runs.specs.Costs.{cost_among}
use Rattle.artifact_store.specs.declared.mark.StoreMark.{StoreMark}
use Rattle.artifact_store.proofs.Shown.{hit_more, hit_same}
use Rattle.shared_runs.specs.declared.store.SharedStore.{SharedStore}
use Rattle.shared_runs.specs.declared.turn.Shared.{Ghosts}
use Rattle.shared_runs.specs.Frames.{StartWith, HoldsOn, HoldsFirst}
use Rattle.shared_runs.specs.Passing.{LeavesFirst}
use Rattle.shared_runs.specs.Shared.{file_of, frames_in, coming_in, state_of, moment_of, left_of}
use Rattle.shared_runs.specs.Shared.{stands, shows, cost_of}
use Rattle.shared_runs.specs.Views.{pairs_at, view_of, SeesBelow, IsLeft}
use Rattle.shared_runs.proofs.Formed.{read_formed}
use Rattle.shared_runs.proofs.Fronts.{front_long, holds_first, holds_starts}
use Rattle.shared_runs.proofs.Leaving.{leaves_view}
use Rattle.shared_runs.proofs.MemTurns.{frames_is}
use Rattle.shared_runs.proofs.Seeing.{seen_front, cost_more}

-- pairs stay as frames come behind theirs
pub pairs_start : (fs all : List Entry) → StartWith fs all
    → (more : List Pair) × (pairs_in all ≡ pairs_in fs ++ more)
pairs_start fs all (more, is) =
    (pairs_from (contents_of fs) more, ap pairs_in is ∙ pairs_in-append fs more)

pub view_same : (seen : SeenPairs) (fs all : List Entry) (bytes : List ℕ)
    → SeesBelow seen (length (pairs_in fs))
    → StartWith fs all → frames_of bytes ≡ all → (old : List ℕ) → frames_of old ≡ fs
    → view_of seen bytes ≡ view_of seen old
view_same seen fs all bytes below starts is old was =
    let (more, pairs) = pairs_start fs all starts in
    ap (λ (l : List Entry). seen_pairs seen (pairs_in l)) is
    ∙ ap (seen_pairs seen) pairs ∙ seen_front seen (pairs_in fs) more below
    ∙ ap (λ (l : List Entry). seen_pairs seen (pairs_in l)) (sym was)

-- ---- hits

pub hits_start : {H D : Type 0} {G : Ghosts H D} {K : DeviceGhosts D}
    (old new : SharedStore H D G K)
    → (K.tells → StartWith (frames_in old) (frames_in new)) → HitsStay K.tells stands shows old new
hits_start old new starts = record {
  stays = λ hit stood told.
      let (more, is) = starts told in
      subst (λ (t : List ℕ). HitIsWithin t hit)
      (sym (ap text_of is ∙ text_of_append (frames_in old) more))
      (hit_more (text_of (frames_in old)) (opened more) hit (stood told));
  same = λ told hit stood.
      let (more, is) = starts told in
      ap (λ (t : List ℕ). shown_in t hit) (ap text_of is ∙ text_of_append (frames_in old) more)
      ∙ hit_same (text_of (frames_in old)) (opened more) hit (stood told);
}

-- ---- what a run keeps

module _ {H D : Type 0} {G : Ghosts H D} {K : DeviceGhosts D} (old new : SharedStore H D G K) where
  pub sees_below : (mark : StoreMark) → old.turns.mark ≡ Some mark → K.tells
      → SeesBelow old.seen (length (pairs_at (file_of old)))
  sees_below mark is told = record {
    first = (old.sees told).first;
    own = All-weaker (λ n. n < old.next) (λ n. n < length (pairs_at (file_of old)))
        (λ n lt. omega (arith, lt, (old.kept mark is told).few)) old.seen.own old.below;
  }

  pub keeps_start : new.seen.first ≡ old.seen.first
      → (K.tells → StartWith (frames_in old) (frames_in new))
      → new.turns.room ≤ old.turns.room → ends (coming_in old) ≤ ends (coming_in new)
      → old.turns.reads ≤ new.turns.reads → Keeps (state_of old) (state_of new)
  keeps_start first starts room grows reads = record {
    base = λ i told. base_same told i;
    room = omega (arith, room, grows);
    probes = reads;
  }
    where
      base_same : (told : K.tells) → take new.seen.first (pairs_at (file_of new))
          ≡ take old.seen.first (pairs_at (file_of old))
      base_same told =
          let (more, pairs) = pairs_start (frames_in old) (frames_in new) (starts told) in
          ap (λ (n : ℕ). take n (pairs_at (file_of new))) first ∙ ap (take old.seen.first) pairs
          ∙ take-append-le old.seen.first (pairs_at (file_of old)) more (old.sees told).first

  module _ (mark : StoreMark) (was : old.turns.mark ≡ Some mark) (seen : new.seen ≡ old.seen)
      (began : (G.turn new.turns.shared).began ≡ G.moment old.turns.shared)
      (first : K.tells → LeavesFirst G old.turns.shared new.turns.shared)
      (room : new.turns.room ≤ old.turns.room) (grows : ends (coming_in old) ≤ ends (coming_in new))
      (reads : old.turns.reads ≤ new.turns.reads)
      (ended : (is_some new.turns.mark ≡ false)
      ⊎ (K.tells → reading (file_of new) ≡ Ok (coming_in old)))
      (stays : K.tells → StartWith (frames_in old) (coming_in old)) where
    pub starts : K.tells → StartWith (frames_in old) (frames_in new)
    starts told = holds_starts (frames_in old) (file_of new)
        (holds_first (frames_in old) (coming_in old) (stays told) (file_of new) (first told).file)

    view_of_more : K.tells → (c : List ℕ) → HoldsOn (frames_in old) c → view_of new.seen c
        ≡ view_of old.seen (file_of old)
    view_of_more told c on =
        ap (λ (s : SeenPairs). view_of s c) seen
        ∙ view_same old.seen (frames_in old) (frames_of c) c (sees_below mark was told)
        (holds_starts (frames_in old) c on) refl (file_of old) refl

    left_in_turn : K.tells → (c : List ℕ) → G.images_since new.turns.shared
        (G.moment old.turns.shared) c
        → IsLeft (is_some new.turns.mark) (G.images_since new.turns.shared
        (G.turn new.turns.shared).began) (file_of new) c
    left_in_turn told c left =
        let (n, least, le, is) = (first told).goes.each c left in
        let (k, few, lt, read) = (first told).file in
        elim ended [
          | inr whole ↦
              let all : frames_in new ≡ coming_in old =
              frames_is (file_of new) (coming_in old) (whole told) in
              inl (
                n,
                omega arith,
                omega (arith, le, ap length all),
                is
                    ∙ ap (λ (l : List Entry). Ok (take n l)) (sym all),
              )
          | inl not_whole ↦
              let now : frames_in new ≡ take k (coming_in old) =
              frames_is (file_of new) (take k (coming_in old)) read in
              elim (cases_lt k n) [
                | inl more ↦
                    let (x, same) = front_long (take k (coming_in old)) (coming_in old)
                    (drop k (coming_in old), sym (take-append-drop k (coming_in old))) n
                    (omega (arith, more, length-take k (coming_in old))) in
                    inr (
                      not_whole,
                      (
                        subst (λ (t : ℕ). G.images_since new.turns.shared t c) (sym began) left,
                        (
                          x,
                          is ∙ ap (λ (l : List Entry). Ok l)
                              (same ∙ ap (λ (l : List Entry). l ++ x) (sym now)),
                        ),
                      ),
                    )
                | inr short ↦ inl (
                  n,
                  omega arith,
                  omega (arith, short, lt, ap length now, length-take k (coming_in old)),
                  is ∙ ap (λ (l : List Entry). Ok l)
                      (sym (take-take n k (coming_in old) (omega (arith, short)))
                      ∙ ap (take n) (sym now)),
                )
              ]
        ]

    pairs_more : K.tells → (state_of new).pairs ≡ (state_of old).pairs
    pairs_more told = view_of_more told (file_of new)
        (holds_first (frames_in old) (coming_in old) (stays told) (file_of new) (first told).file)

    pub reads_view : CacheReads K.tells state_of cost_of stands shows moment_of left_of
        (λ base image. image.pairs) old new
    reads_view = record {
      pairs = pairs_more;
      lasting = λ told. ap (λ (l : List Pair). length l) (pairs_more told);
      sure = λ told. refl;
      cost_same = λ told key.
          ap (λ (s : SeenPairs). cost_among s (frames_in new) key) seen
          ∙ cost_more (frames_in old) (frames_in new) (starts told)
          (read_formed (file_of new) (frames_in new) (new.sees told).sound) old.seen key
          (sees_below mark was told);
      hits = hits_start old new starts;
      left = λ told. leaves_view old new
          (λ o. IsPartSince (length (view_of old.seen (file_of old)))
          (view_of old.seen (file_of old)) o)
          (HoldsFirst (length (frames_in old)) (coming_in old)) (ap is_some was) (starts told)
          (first told).goes
          (λ c left. (
            left_in_turn told c left,
            all_part (view_of old.seen (file_of old)) (Some (view_of new.seen c))
                (ap (λ (l : List Pair). Some l) (view_of_more told c
                (holds_first (frames_in old) (coming_in old) (stays told) c
                ((first told).goes.each c left)))),
          ))
          (λ n le c is. ap (λ (s : SeenPairs). view_of s c) seen);
      keeps = keeps_start (ap (λ (s : SeenPairs). s.first) seen) starts room grows reads;
    }
