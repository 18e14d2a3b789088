-- A shared file behind a run over it.
use Rattle.std.proofs.Common.{◌≡◌, inl, inr, ℕ, ◌+◌, List, [], ◌++◌, length, take, Option, Some}
use Rattle.std.proofs.Common.{None, refl, sym, ◌∙◌, ap, subst, arith, length-take, append-nil}
use Rattle.std.specs.Prelude.{◌-◌, IsTrue}
use Rattle.rel_path.specs.Limits.{store_limit}
use Rattle.store_dev.specs.Device.{LeavesOnly, Only}
use Rattle.store_dev.specs.Moments.{leaves_then}
use Rattle.store_dev.specs.declared.device.StoreDevice.{Ghosts as DeviceGhosts}
use Rattle.cache_api.specs.Cache.{Keeps}
use Rattle.cache_api.specs.Moments.{Leaves}
use Rattle.cache_api.specs.Pairs.{Pair}
use Rattle.record_log.specs.Kinds.{Entry}
use Rattle.record_log.specs.Frames.{frames_of, ends, IsSound}
use Rattle.record_log.specs.Texts.{ends_append}
use Rattle.pair_frames.specs.Pairs.{pairs_in}
use Rattle.shared_runs.specs.declared.store.SharedStore.{SharedStore}
use Rattle.shared_runs.specs.declared.turn.Shared.{Ghosts}
use Rattle.shared_runs.specs.Frames.{StartWith, HoldsOneOrMore}
use Rattle.shared_runs.specs.Opened.{IsOpened}
use Rattle.shared_runs.specs.Shared.{file_of, frames_in, coming_in, state_of, moment_of}
use Rattle.shared_runs.specs.Shared.{left_of}
use Rattle.shared_runs.specs.Views.{pairs_at, view_of}
use Rattle.shared_runs.proofs.Ending.{some_of}
use Rattle.answers.specs.declared.answer.Answer.{Answer}
use Rattle.answers.specs.Answers.{HasCauseIn, HasRunCause, counts_of}
use Rattle.answers.specs.Facts.{cause_of_run}
use Rattle.answers.specs.Moments.{Moment}
use Rattle.file_runs.specs.Causes.{HasCauseOver}
use Rattle.file_runs.specs.Images.{IsOneOrAddedTo, StaysSound}
use Rattle.file_runs.specs.Standing.{HoldsAdded}
use Rattle.file_runs.specs.Turns.{held_in_turn, if_store}
use Rattle.file_runs.proofs.Leaving.{goes_leaves, file_left, sound_read}
use Rattle.file_runs.proofs.Standing.{front_holds, view_holds}

-- the same of what is equal
pub moved : (T : List Pair → List Pair → ℕ → Type 0) (p q a b : List Pair) (r s : ℕ)
    → p ≡ q → a ≡ b → r ≡ s → T p a r → T q b s
moved T p q a b r s one two three t =
    subst (λ (n : ℕ). T q b n) three
    (subst (λ (l : List Pair). T q l r) two (subst (λ (l : List Pair). T l a r) one t))

-- the same of the count of the store alone
counted : {told : Type 0} (t s k u v w a b c d damaged : ℕ) (answer : Answer)
    → (told → damaged ≡ 0) → a ≡ b → c ≡ d + damaged
    → HasRunCause (counts_of t a s k) (counts_of u c v w) answer
    → HasCauseOver told (counts_of t b s k) (counts_of u d v w) answer
counted t s k u v w a b c d damaged answer never one two cause = record {
  damaged = damaged;
  never = never;
  cause = subst (λ (n : ℕ). HasRunCause (counts_of t b s k) (counts_of u n v w) answer) two
      (subst (λ (n : ℕ). HasRunCause (counts_of t n s k) (counts_of u c v w) answer) one cause);
}

-- where it was not opened it has no damage
pub cause_unopened : {told : Type 0} (t s k w b d : ℕ) (answer : Answer)
    → HasCauseIn (counts_of t b s k) (counts_of t d s w) answer
    → HasCauseOver told (counts_of t b s k) (counts_of t d s w) answer
cause_unopened t s k w b d answer cause =
    counted t s k t s w b b d d 0 answer (λ told. refl) refl (omega arith)
    (cause_of_run (counts_of t b s k) (counts_of t d s w) answer cause)

-- an image that the file had, or that has the first of the frames to come, is sound where all were
one_sound : (images : List ℕ → Type 0) (file c : List ℕ) (coming : List Entry)
    → ((d : List ℕ) → images d → IsSound d) → HoldsOneOrMore images file coming c → IsSound c
one_sound images file c coming all (inl (d, now, same)) =
    sound_read c (frames_of d) (same ∙ all d now)
one_sound images file c coming all (inr (sound, (n, least, le, is))) = sound_read c _ is

module _ {H D : Type 0} {G : Ghosts H D} {K : DeviceGhosts D} (file : H)
    (mid new : SharedStore H D G K) (opened : IsOpened G K file mid)
    (keeps : Keeps (state_of mid) (state_of new)) (end : H) (given : end ≡ new.turns.shared) where
  pub cause_end : (t s k u v w : ℕ) (answer : Answer)
      → HasRunCause (counts_of t (state_of mid).faults s k)
      (counts_of u (state_of new).faults v w) answer
      → HasCauseOver K.tells (counts_of t (G.store_faults file) s k)
      (counts_of u (G.store_faults end) v w) answer
  cause_end t s k u v w answer cause =
      counted t s k u v w (state_of mid).faults (G.store_faults file) (state_of new).faults
      (G.store_faults end) new.turns.damaged answer new.undamaged opened.cause
      (ap (λ (h : H). G.store_faults h + new.turns.damaged) (sym given)) cause

  module _ (told : K.tells) where
    abbrev before : List Pair
    before = pairs_in (G.coming file)

    -- it was a store, whose pairs those of the run were
    pub held_first : (held_in_turn (G.content file) (G.coming file)).pairs ≡ Some before
    held_first = ap (λ r. if_store r before) (opened.sound told)

    -- the pairs of its first turn are still the first ones
    front : take new.seen.first (pairs_at (file_of new)) ≡ before
    front = ap (λ (base : K.tells → List Pair). base told) keeps.base ∙ opened.base told

    first_is : new.seen.first ≡ length before
    first_is = omega (
      arith,
      ap length front,
      length-take new.seen.first (pairs_at (file_of new)),
      (new.sees told).first,
    )

    holds_now : (added : List Pair) × (view_of new.seen (file_of new) ≡ before ++ added)
        × HoldsAdded before added (file_of new)
    holds_now = front_holds new.seen (file_of new) (new.sees told).sound before
        (new.sees told).first front

    -- the run sees them and what it added, which stands in the file
    pub holds_end : (added : List Pair) × ((state_of new).pairs ≡ before ++ added)
        × HoldsAdded before added (G.content end)
    holds_end =
        let (added, is, holds) = holds_now in (
          added,
          is,
          subst (λ (h : H). HoldsAdded before added (G.content h)) (sym given) holds,
        )

    -- or it added nothing
    pub none_end : (state_of new).pairs ≡ (state_of mid).pairs → HoldsAdded before [] (G.content end)
    none_end same =
        subst (λ (h : H). HoldsAdded before [] (G.content h)) (sym given)
        (view_holds new.seen (file_of new) (new.sees told).sound before [] first_is
        (same ∙ opened.pairs told ∙ sym (append-nil before)))

    pub room_end : StartWith (frames_in new) (coming_in new)
        → (state_of new).room ≡ (held_in_turn (G.content end) (G.coming end)).free
    room_end (more, is) =
        let room : (state_of new).room ≡ store_limit - ends (coming_in new) = omega (
          arith,
          (new.sees told).free,
          ap ends is,
          ends_append (frames_in new) more,
        ) in
        room ∙ ap (λ (h : H). store_limit - ends (G.coming h)) (sym given)

    pub only_end : IsTrue (state_of new).whole → Only (G.content end) (G.images end)
    only_end whole =
        let (mark, is) = some_of new.turns.mark whole in
        subst (λ (h : H). Only (G.content h) (G.images h)) (sym given)
        (new.kept mark is told).marked.durable

    -- ---- each image since the call began

    module _ (R : Option (List Pair) → Type 0) (no : R None → ⊥)
        (x : Leaves moment_of left_of mid new (λ image. R image.pairs)) where
      abbrev Since : (List ℕ → Type 0) → Type 0
      Since P = LeavesOnly G.moment G.images_since file end P

      one : LeavesOnly G.moment G.images_since file mid.turns.shared
          (HoldsOneOrMore (G.images file) (G.content file) (G.coming file))
      one = goes_leaves G.moment G.images_since file mid.turns.shared
          (HoldsOneOrMore (G.images file) (G.content file) (G.coming file))
          (opened.images told).goes

      both : (P : List ℕ → Type 0)
          → ((c : List ℕ) → HoldsOneOrMore (G.images file) (G.content file) (G.coming file) c
          → P c)
          → ((c : List ℕ) → IsSound c × R (Some (view_of new.seen c)) → P c) → Since P
      both P first second =
          subst (λ (h : H). LeavesOnly G.moment G.images_since file h P) (sym given)
          (leaves_then G.moment G.images_since file mid.turns.shared new.turns.shared
          (HoldsOneOrMore (G.images file) (G.content file) (G.coming file))
          (λ c. IsSound c × R (Some (view_of new.seen c))) P one (file_left mid new R no x)
          first second)

      pub sound_end : StaysSound G file end
      sound_end all c left =
          (both IsSound
          (λ c one. one_sound (G.images file) (G.content file) c (G.coming file) all one)
          (λ c both. both.0)).each c left

      pub left_end : (old : Moment) → old.held.pairs ≡ Some before
          → (P : List Pair → List Pair → Type 0)
          → ((view : List Pair) → R (Some view)
          → (added : List Pair) × (view ≡ before ++ added) × P before added)
          → Since (IsOneOrAddedTo G file old P)
      left_end old held P to =
          both (IsOneOrAddedTo G file old P) (λ c one. inl one)
          (λ c (sound, r).
          let (added, is, has) = to (view_of new.seen c) r in
          inr (record {
            before = before;
            opened = held;
            added = added;
            holds = view_holds new.seen c sound before added first_is is;
            has = has;
          }))
