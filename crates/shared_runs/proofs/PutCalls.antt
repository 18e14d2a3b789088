-- A call of a run that puts pairs.
use Rattle.std.proofs.Common.{◌≡◌, ◌⊎◌, inl, inr, ℕ, ◌-◌, ◌<◌, ◌≤◌, Bool, false, List, ◌++◌, length}
use Rattle.std.proofs.Common.{take, drop, Option, Some, None, Ok, refl, sym, ◌∙◌, ap, subst, arith}
use Rattle.std.proofs.Common.{append_assoc, length-append, length-take, take-append-drop}
use Rattle.std.specs.Prelude.{is_some}
use Rattle.std.proofs.lemmas.Bool.{cases_lt}
use Rattle.std.proofs.lemmas.List.{append-nil, drop_at, take_at, take-take}
use Rattle.std.proofs.lemmas.List.{take-append-le}
use Rattle.rel_path.specs.Limits.{store_limit}
use Rattle.store_dev.specs.declared.device.StoreDevice.{Ghosts as DeviceGhosts}
use Rattle.cache_api.specs.Cache.{Keeps, HitsStay}
use Rattle.cache_api.specs.Moments.{Leaves}
use Rattle.cache_api.specs.Pairs.{Pair, IsPartSince}
use Rattle.cache_api.proofs.Firsts.{added_part}
use Rattle.record_log.specs.Kinds.{Entry}
use Rattle.record_log.specs.Frames.{reading, frames_of, ends}
use Rattle.pair_frames.specs.Pairs.{pairs_in}
use Rattle.pair_frames.specs.Puts.{added}
use Rattle.std.specs.List.{All}
use Rattle.pair_index.specs.declared.seen.SeenPairs.{SeenPairs}
use Rattle.pair_index.specs.Seen.{seen_pairs}
use Rattle.artifact_store.specs.declared.mark.StoreMark.{StoreMark}
use Rattle.shared_runs.specs.declared.store.SharedStore.{SharedStore}
use Rattle.shared_runs.specs.declared.turn.Shared.{Ghosts}
use Rattle.shared_runs.specs.declared.turns.Turns.{Turns}
use Rattle.shared_runs.specs.Frames.{StartWith, HoldsOn, HoldsFirst}
use Rattle.shared_runs.specs.Marked.{IsKept}
use Rattle.shared_runs.specs.Others.{with_pairs}
use Rattle.shared_runs.specs.Own.{numbers_on}
use Rattle.shared_runs.specs.Passes.{PutsTurn, HoldsFirstOrPut}
use Rattle.shared_runs.specs.Shared.{file_of, frames_in, coming_in, state_of, moment_of, left_of}
use Rattle.shared_runs.specs.Shared.{stands, shows}
use Rattle.shared_runs.specs.Turns.{GoesOn}
use Rattle.shared_runs.specs.Views.{pairs_at, view_of, IsLeft, Sees}
use Rattle.shared_runs.proofs.Fronts.{starts_few, starts_then, front_long, holds_first}
use Rattle.shared_runs.proofs.Fronts.{holds_starts, first_all}
use Rattle.shared_runs.proofs.Leaving.{leaves_view}
use Rattle.shared_runs.proofs.MemTurns.{frames_is, sound_is}
use Rattle.shared_runs.proofs.Owning.{view_low, view_put}
use Rattle.shared_runs.proofs.Passed.{pairs_start, view_same, sees_below, hits_start, keeps_start}
use Rattle.shared_runs.proofs.Seeing.{seen_front}

pub behind_same : {A : Type 0} (xs ys zs : List A) → xs ++ ys ≡ xs ++ zs → ys ≡ zs
behind_same xs ys zs is = sym (drop_at xs ys (length xs) refl) ∙ ap (drop (length xs)) is
    ∙ drop_at xs zs (length xs) refl

-- a front of frames, or all with more, is a front of these
pub first_of_put : (least : ℕ) (coming : List Entry) (pairs : List Pair) (c : List ℕ)
    → least ≤ length coming
    → HoldsFirstOrPut least coming pairs c → HoldsFirst least (with_pairs coming pairs) c
first_of_put least coming pairs c few (inl (n, le, lt, is)) =
    let more = added (store_limit - ends coming) coming pairs in (
      n,
      le,
      omega (arith, lt, length-append coming more),
      is ∙ ap (λ (l : List Entry). Ok l) (sym (take-append-le n coming more lt)),
    )
first_of_put least coming pairs c few (inr is) =
    first_all least (with_pairs coming pairs) c
    (omega (arith, few, length-append coming (added (store_limit - ends coming) coming pairs))) is

module _ {H D : Type 0} {G : Ghosts H D} {K : DeviceGhosts D} (old : SharedStore H D G K)
    (turns : Turns H) (news : List Pair)
    (mark : StoreMark) (was : old.turns.mark ≡ Some mark)
    (stays : K.tells → StartWith (frames_in old) (coming_in old))
    (turn : PutsTurn G K news old.turns turns) where
  abbrev all : List Entry
  all = with_pairs (coming_in old) news

  abbrev least : ℕ
  least = length (frames_in old)

  abbrev file : List ℕ
  file = G.content turns.shared

  all_start : K.tells → StartWith (frames_in old) all
  all_start told =
      starts_then (frames_in old) (coming_in old) all (stays told)
      (added (store_limit - ends (coming_in old)) (coming_in old) news, refl)

  put_first : K.tells → (c : List ℕ) → HoldsFirstOrPut least (coming_in old) news c
      → HoldsFirst least all c
  put_first told c x = first_of_put least (coming_in old) news c
      (starts_few (frames_in old) (coming_in old) (stays told)) x

  pub put_starts : K.tells → StartWith (frames_in old) (frames_of file)
  put_starts told = holds_starts (frames_in old) file
      (holds_first (frames_in old) all (all_start told) file (put_first told file (turn.file told)))

  pub put_more : K.tells → length (pairs_at (file_of old)) ≤ length (pairs_at file)
  put_more told =
      let (more, pairs) = pairs_start (frames_in old) (frames_of file) (put_starts told) in
      omega (arith, ap length pairs, length-append (pairs_at (file_of old)) more)

  pub sees_put : K.tells → (room : ℕ) → turns.room ≤ room → Sees old.seen room file
  sees_put told room le =
      let (n, least, few, is) = put_first told file (turn.file told) in
      record {
        sound = sound_is file (take n all) is;
        first = omega (arith, (old.sees told).first, put_more told);
        free = omega (arith, le, turn.free told (old.sees told).free);
      }

  pub kept_put : (m : StoreMark) → turns.mark ≡ Some m → K.tells
      → IsKept m old.next file (G.images turns.shared)
  kept_put m is told = record {
    marked = turn.known m is told;
    few = omega (arith, (old.kept mark was told).few, put_more told);
  }

  -- the run's cache behind the turn, where it sees no pairs more than before
  abbrev pub now_store : SharedStore H D G K
  now_store = record {
    turns = turns;
    seen = old.seen;
    next = old.next;
    idle = turn.held;
    undamaged = λ told. turn.undamaged told ∙ old.undamaged told;
    below = old.below;
    sees = λ told. sees_put told turns.room (omega arith);
    kept = kept_put;
  }

  -- and where it sees more
  module _ (seen : SeenPairs) (next : ℕ) (first : seen.first ≡ old.seen.first)
      (below : All (λ n. n < next) seen.own)
      (few : K.tells → next ≤ length (pairs_at file)) where
    pub sees_own : K.tells → Sees seen turns.room file
    sees_own told =
        let x = sees_put told turns.room (omega arith) in
        record { sound = x.sound; first = omega (arith, x.first, first); free = x.free }

    pub kept_own : (m : StoreMark) → turns.mark ≡ Some m → K.tells
        → IsKept m next file (G.images turns.shared)
    kept_own m is told = record { marked = turn.known m is told; few = few told }

    abbrev pub own_store : SharedStore H D G K
    own_store = record {
      turns = turns;
      seen = seen;
      next = next;
      idle = turn.held;
      undamaged = λ told. turn.undamaged told ∙ old.undamaged told;
      below = below;
      sees = sees_own;
      kept = kept_own;
    }

  -- an image of the turn is one that the run leaves
  pub left_put : (whole : Bool) → (whole ≡ false) ⊎ (reading file ≡ Ok all) → K.tells → (c : List ℕ)
      → G.images_since turns.shared (G.moment old.turns.shared) c
      → IsLeft whole (G.images_since turns.shared (G.turn turns.shared).began) file c
  left_put whole ended told c left =
      let (n, most, le, is) = put_first told c ((turn.goes told).each c left) in
      let (k, few, lt, read) = put_first told file (turn.file told) in
      elim ended [
        | inr done ↦
            let same : frames_of file ≡ all = frames_is file all done in
            inl (
              n,
              omega arith,
              omega (arith, le, ap length same),
              is
                  ∙ ap (λ (l : List Entry). Ok (take n l)) (sym same),
            )
        | inl not_whole ↦
            let now : frames_of file ≡ take k all = frames_is file (take k all) read in
            elim (cases_lt k n) [
              | inl more ↦
                  let (x, same) = front_long (take k all) all
                  (drop k all, sym (take-append-drop k all)) n
                  (omega (arith, more, length-take k all)) in
                  inr (
                    not_whole,
                    (
                      subst (λ (t : ℕ). G.images_since turns.shared t c) (sym turn.began) left,
                      (
                        x,
                        is ∙ ap (λ (l : List Entry). Ok l)
                            (same ∙ ap (λ (l : List Entry). l ++ x) (sym now)),
                      ),
                    ),
                  )
              | inr short ↦ inl (
                n,
                omega arith,
                omega (arith, short, lt, ap length now, length-take k all),
                is ∙ ap (λ (l : List Entry). Ok l)
                    (sym (take-take n k all (omega (arith, short))) ∙ ap (take n) (sym now)),
              )
            ]
      ]

  -- what held the old frames shows the old pairs to who sees no others
  old_view : K.tells → (c : List ℕ) → HoldsOn (frames_in old) c → view_of old.seen c
      ≡ view_of old.seen (file_of old)
  old_view told c on =
      view_same old.seen (frames_in old) (frames_of c) c (sees_below old old mark was told)
      (holds_starts (frames_in old) c on) refl (file_of old) refl

  abbrev Q : List Pair → Option (List Pair) → Type 0
  Q more o = IsPartSince (length (view_of old.seen (file_of old)))
      (view_of old.seen (file_of old) ++ more) o

  none_put : (more : List Pair) (o : List Pair) → o ≡ view_of old.seen (file_of old)
      → Q more (Some o)
  none_put more o is = added_part (view_of old.seen (file_of old)) more (Some o) (
    0,
    omega arith,
    ap (λ (l : List Pair). Some l)
        (is ∙ sym (append-nil (view_of old.seen (file_of old)))),
  )

  -- ---- where the run sees no pairs more than before

  module _ (new : SharedStore H D G K) (shared : new.turns ≡ turns) (seen : new.seen ≡ old.seen)
      (ended : (is_some turns.mark ≡ false) ⊎ (K.tells → reading file ≡ Ok all)) where
    pub pairs_same : K.tells → view_of new.seen (file_of new) ≡ view_of old.seen (file_of old)
    pairs_same told =
        (λ i. view_of (seen i) (G.content (shared i).shared))
        ∙ old_view told file (holds_first (frames_in old) all (all_start told) file
        (put_first told file (turn.file told)))

    pub lasting_same : K.tells → (state_of old).lasting ≤ (state_of new).lasting
    lasting_same told = omega (arith, ap length (pairs_same told))

    starts_now : K.tells → StartWith (frames_in old) (frames_in new)
    starts_now told = subst (λ (t : Turns H). StartWith (frames_in old)
        (frames_of (G.content t.shared))) (sym shared) (put_starts told)

    pub hits_same : HitsStay K.tells stands shows old new
    hits_same = hits_start old new starts_now

    pub keeps_same : turns.room ≤ old.turns.room → Keeps (state_of old) (state_of new)
    keeps_same room =
        keeps_start old new (ap (λ s. s.first) seen) starts_now
        (subst (λ (t : Turns H). t.room ≤ old.turns.room) (sym shared) room)
        (subst (λ (t : Turns H). ends (coming_in old) ≤ ends (G.coming t.shared)) (sym shared)
        turn.grows)
        (subst (λ (t : Turns H). old.turns.reads ≤ t.reads) (sym shared) turn.reads)

  module _ (told : K.tells) (more : List Pair)
      (ended : (is_some turns.mark ≡ false) ⊎ (reading file ≡ Ok all)) where
    pub left_same : (new : SharedStore H D G K) → new.turns ≡ turns → new.seen ≡ old.seen
        → Leaves moment_of left_of old new (λ i. Q more i.pairs)
    left_same new shared seen =
        leaves_view old new (Q more) (HoldsFirstOrPut least (coming_in old) news) (ap is_some was)
        (subst (λ (t : Turns H). StartWith (frames_in old) (frames_of (G.content t.shared)))
        (sym shared) (put_starts told))
        (subst (λ (t : Turns H). GoesOn G.moment G.images_since old.turns.shared t.shared
        (HoldsFirstOrPut least (coming_in old) news)) (sym shared) (turn.goes told))
        (λ c left.
        let here = subst (λ (t : Turns H). G.images_since t.shared (G.moment old.turns.shared) c)
        shared left in (
          subst (λ (t : Turns H). IsLeft (is_some t.mark)
              (G.images_since t.shared (G.turn t.shared).began) (G.content t.shared) c)
              (sym shared) (left_put (is_some turns.mark) ended told c here),
          none_put more (view_of new.seen c) (ap (λ s. view_of s c) seen
              ∙ old_view told c (holds_first (frames_in old) all (all_start told) c
              (put_first told c ((turn.goes told).each c here)))),
        ))
        (λ n le c is. ap (λ s. view_of s c) seen)

  -- ---- where it sees those that were put

  module _ (told : K.tells) (done : reading file ≡ Ok all) (more : List Pair) (from : ℕ)
      (pairs : pairs_in all ≡ pairs_in (coming_in old) ++ more)
      (count : from ≡ length (pairs_in (coming_in old)))
      (new : SharedStore H D G K) (shared : G.content new.turns.shared ≡ file)
      (first : new.seen.first ≡ old.seen.first)
      (own : new.seen.own ≡ old.seen.own ++ numbers_on from (length more)) where
    old_coming : seen_pairs old.seen (pairs_in (coming_in old)) ≡ view_of old.seen (file_of old)
    old_coming =
        let (x, is) = pairs_start (frames_in old) (coming_in old) (stays told) in
        ap (seen_pairs old.seen) is
        ∙ seen_front old.seen (pairs_in (frames_in old)) x (sees_below old old mark was told)

    pub pairs_put : view_of new.seen (file_of new) ≡ view_of old.seen (file_of old) ++ more
    pairs_put =
        ap (λ (b : List ℕ). view_of new.seen b) shared
        ∙ ap (λ (l : List Entry). seen_pairs new.seen (pairs_in l)) (frames_is file all done)
        ∙ ap (seen_pairs new.seen) pairs
        ∙ view_put old.seen new.seen from (length more) first own (pairs_in (coming_in old)) more
        (sym count) (omega arith)
        ∙ ap (λ (l : List Pair). l ++ more) old_coming

    -- an image that holds the old frames and the first of those behind them
    part_put : (c : List ℕ) → HoldsFirst least all c → Q more (Some (view_of new.seen c))
    part_put c (n, le, lt, is) =
        let coming = coming_in old in
        let here : frames_of c ≡ take n all = frames_is c (take n all) is in
        elim (cases_lt (length coming) n) [
          | inr short ↦
              let front : take n all ≡ take n coming =
              take-append-le n coming (added (store_limit - ends coming) coming news)
              (omega (arith, short)) in
              let (x, pairs_x) = pairs_start (take n coming) coming
              (drop n coming, sym (take-append-drop n coming)) in
              let low : length (pairs_in (take n coming)) ≤ from =
              omega (arith, count, ap length pairs_x, length-append (pairs_in (take n coming)) x) in
              let (y, same) = front_long (frames_in old) all (all_start told) n le in
              none_put more (view_of new.seen c)
              (ap (λ (l : List Entry). seen_pairs new.seen (pairs_in l)) (here ∙ front)
              ∙ view_low old.seen new.seen from (length more) first own
              (pairs_in (take n coming)) low
              ∙ ap (λ (l : List Entry). seen_pairs old.seen (pairs_in l)) (sym (here ∙ front))
              ∙ old_view told c (y, is ∙ ap (λ (l : List Entry). Ok l) same))
          | inl long ↦
              let (y, same) = front_long coming all
              (added (store_limit - ends coming) coming news, refl) n (omega (arith, long)) in
              let (x, front) = pairs_start coming (take n all) (y, same) in
              let (z, behind) = pairs_start (take n all) all
              (drop n all, sym (take-append-drop n all)) in
              let both : pairs_in coming ++ more ≡ pairs_in coming ++ (x ++ z) =
              sym pairs ∙ behind ∙ ap (λ (l : List Pair). l ++ z) front
              ∙ append_assoc (pairs_in coming) x z in
              let split : more ≡ x ++ z = behind_same (pairs_in coming) more (x ++ z) both in
              let few : length x ≤ length more =
              omega (arith, ap length split, length-append x z) in
              added_part (view_of old.seen (file_of old)) more (Some (view_of new.seen c)) (
                length x,
                few,
                ap (λ (l : List Pair). Some l)
                    (ap (λ (l : List Entry). seen_pairs new.seen (pairs_in l)) here
                    ∙ ap (seen_pairs new.seen) front
                    ∙ view_put old.seen new.seen from (length more) first own (pairs_in coming) x
                    (sym count) few
                    ∙ (λ i. old_coming i ++ sym
                    (ap (take (length x)) split ∙ take_at x z (length x) refl) i)),
              )
        ]

    pub left_more : new.turns.mark ≡ turns.mark → new.turns.shared ≡ turns.shared
        → Leaves moment_of left_of old new (λ i. Q more i.pairs)
    left_more kept same =
        let starts : StartWith (frames_in old) (frames_in new) =
        subst (λ (b : List ℕ). StartWith (frames_in old) (frames_of b)) (sym shared)
        (put_starts told) in
        let now_all : frames_in new ≡ all = ap frames_of shared ∙ frames_is file all done in
        leaves_view old new (Q more) (HoldsFirstOrPut least (coming_in old) news)
        (ap is_some was) starts
        (subst (λ (x : H). GoesOn G.moment G.images_since old.turns.shared x
        (HoldsFirstOrPut least (coming_in old) news)) (sym same) (turn.goes told))
        (λ c left.
        let here = subst (λ (x : H). G.images_since x (G.moment old.turns.shared) c) same left in (
          inl (front_all c now_all (put_first told c ((turn.goes told).each c here))),
          part_put c (put_first told c ((turn.goes told).each c here)),
        ))
        (λ n le c is. low_view n le c is)
      where
        front_all : (c : List ℕ) → frames_in new ≡ all → HoldsFirst least all c
            → HoldsFirst 0 (frames_in new) c
        front_all c is (n, le, lt, read) = (
          n,
          omega arith,
          omega (arith, lt, ap length is),
          read
              ∙ ap (λ (l : List Entry). Ok (take n l)) (sym is),
        )

        low_view : (n : ℕ) → n ≤ least → (c : List ℕ) → reading c ≡ Ok (take n (frames_in old))
            → view_of new.seen c ≡ view_of old.seen c
        low_view n le c is =
            let fs = frames_in old in
            let (x, pairs_x) = pairs_start (take n fs) (coming_in old)
            (starts_then (take n fs) fs (coming_in old) (drop n fs, sym (take-append-drop n fs))
            (stays told)) in
            let low : length (pairs_in (take n fs)) ≤ from =
            omega (arith, count, ap length pairs_x, length-append (pairs_in (take n fs)) x) in
            let here : frames_of c ≡ take n fs = frames_is c (take n fs) is in
            ap (λ (l : List Entry). seen_pairs new.seen (pairs_in l)) here
            ∙ view_low old.seen new.seen from (length more) first own (pairs_in (take n fs)) low
            ∙ ap (λ (l : List Entry). seen_pairs old.seen (pairs_in l)) (sym here)

-- the numbers of what was put
module _ {H D : Type 0} {G : Ghosts H D} {K : DeviceGhosts D} (old : SharedStore H D G K)
    (mark : StoreMark)
    (was : old.turns.mark ≡ Some mark) (stays : K.tells → StartWith (frames_in old) (coming_in old))
  where
    pub next_few : K.tells → old.next ≤ length (pairs_in (coming_in old))
    next_few told =
        let (more, pairs) = pairs_start (frames_in old) (coming_in old) (stays told) in
        omega (
          arith,
          (old.kept mark was told).few,
          ap length pairs,
          length-append
              (pairs_at (file_of old)) more,
        )

none_apart : {A : Type 0} (a : A) → None ≡ Some a → ⊥
none_apart a is = cc

abbrev pub dropped : {H : Type 0} → Turns H → Turns H
dropped turns = record turns { mark = None }

-- the same turn where the mark is dropped
pub put_dropped : {H D : Type 0} {G : Ghosts H D} {K : DeviceGhosts D} (news : List Pair)
    (old turns : Turns H) → PutsTurn G K news old turns
    → PutsTurn G K news old (dropped turns)
put_dropped news old turns x = record {
  held = x.held;
  began = x.began;
  file = x.file;
  goes = x.goes;
  undamaged = x.undamaged;
  grows = x.grows;
  known = λ m is. absurd (none_apart m is);
  free = x.free;
  reads = x.reads;
}
