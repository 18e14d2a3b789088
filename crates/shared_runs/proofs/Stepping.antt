-- The calls of a run as events of each history that leads to it.
use Rattle.std.proofs.Common.{◌≡◌, ◌⊎◌, inl, inr, ⊎_elim, ℕ, ◌≤◌, true, if◌then◌else◌, List}
use Rattle.std.proofs.Common.{[], ◌∷◌, ◌++◌, length, take, drop, Option, Some, None, Result}
use Rattle.std.proofs.Common.{Ok, Err, refl, sym, ◌∙◌, ap, subst, append-nil, append_assoc}
use Rattle.std.proofs.Common.{take-append-drop}
use Rattle.std.specs.Prelude.{is_some, IfOk, OnOk, OnErr}
use Rattle.globs.specs.declared.out_set.OutSet.{OutSet}
use Rattle.codes.specs.Views.{found_as}
use Rattle.store_dev.specs.declared.device.StoreDevice.{Ghosts as DeviceGhosts}
use Rattle.cache_api.specs.declared.error.CacheErr.{CacheErr}
use Rattle.cache_api.specs.declared.hit.Hit.{Hit}
use Rattle.cache_api.specs.Cache.{StaysWhole}
use Rattle.cache_api.specs.Found.{found}
use Rattle.cache_api.specs.Pairs.{Pair}
use Rattle.cache_api.specs.Reading.{artifact_in}
use Rattle.record_log.specs.Frames.{reading, frames_of}
use Rattle.pair_frames.specs.Pairs.{pairs_in}
use Rattle.artifact_store.specs.declared.mark.StoreMark.{StoreMark}
use Rattle.shared_views.specs.Machine.{Event, found_in}
use Rattle.shared_views.specs.Machine.Event.{Look, Cut}
use Rattle.shared_views.specs.Histories.{events_of, IsHistory, added}
use Rattle.shared_views.proofs.Going.{IsOwn, own-none, own-look, own-cut, own-adds, own-adds_then}
use Rattle.shared_views.proofs.Going.{added-adds, added-append, added-split, apart-front}
use Rattle.shared_views.proofs.Going.{coming-front, uncut-adds, cut-adds, goes-file, goes-history}
use Rattle.shared_views.proofs.Going.{goes-view}
use Rattle.shared_views.proofs.Seen.{seen}
use Rattle.shared_runs.specs.declared.store.SharedStore.{SharedStore}
use Rattle.shared_runs.specs.declared.turn.Shared.{Ghosts}
use Rattle.shared_runs.specs.Frames.{StartWith, HoldsFirst}
use Rattle.shared_runs.specs.Passes.{HoldsSomePut}
use Rattle.shared_runs.specs.Shared.{file_of, frames_in, coming_in, state_of, shows}
use Rattle.shared_runs.specs.Steps.{RunHistory, events_in, further, reached, sight_of, adds}
use Rattle.shared_runs.specs.Steps.{Follows, Comes, IsCutOff, IsCutBehind, IsLook, Looks, Reads}
use Rattle.shared_runs.specs.Steps.{Adds}
use Rattle.shared_runs.specs.Steps.{InEach}
use Rattle.shared_runs.specs.Views.{pairs_at, view_of}
use Rattle.shared_runs.proofs.Fronts.{front_long}
use Rattle.shared_runs.proofs.MemTurns.{frames_is}
use Rattle.shared_runs.proofs.Passed.{pairs_start}
use Rattle.shared_runs.proofs.PutCalls.{behind_same}

module _ {H D : Type 0} {G : Ghosts H D} {K : DeviceGhosts D} (old new : SharedStore H D G K)
    (mark : StoreMark) (was : old.turns.mark ≡ Some mark)
    (starts : StartWith (frames_in old) (coming_in old))
    (base : (told : K.tells) → (state_of new).base told ≡ (state_of old).base told) where
  abbrev before : List Pair
  before = view_of old.seen (file_of old)

  was_seen : (h : RunHistory) → Follows h old → (reached h).views h.run ≡ Some before
  was_seen h f =
      f.view ∙ ap (λ (o : Option StoreMark). if is_some o then Some before else None) was

  still_whole : (view : List Pair) → is_some new.turns.mark ≡ true
      → view_of new.seen (file_of new) ≡ view → sight_of new ≡ Some view
  still_whole view whole is =
      (λ i. if whole i then Some (view_of new.seen (file_of new)) else None) ∙ ap Some is

  not_whole : new.turns.mark ≡ None → sight_of new ≡ None
  not_whole none =
      ap (λ (o : Option StoreMark). if is_some o then Some
      (view_of new.seen (file_of new)) else None)
      none

  module _ (h : RunHistory) (f : Follows h old) where
    goes_on : (part own : List Event) → IsHistory (events_in (further h part))
        → events_of h.run part ≡ [] → IsOwn h.run own
        → pairs_at (file_of new) ≡ pairs_at (file_of old) ++ (added part ++ added own)
        → sight_of new ≡ seen before own → Follows (further h (part ++ own)) new
    goes_on part own history apart is_own file sight = record {
      history = goes-history h.run h.first h.earlier h.later part before history apart
          (was_seen h f) own is_own;
      file = goes-file h.run h.first h.earlier h.later part before history apart
          (was_seen h f) own is_own
          ∙ ap (λ ps. ps ++ (added part ++ added own)) f.file ∙ sym file;
      view = goes-view h.run h.first h.earlier h.later part before history apart
          (was_seen h f) own is_own ∙ sym sight;
      base = λ told. base told ∙ f.base told;
    }

    module _ (others : List Event) (comes : Comes h others old) where
      -- all that was to come, and what the run adds behind it
      came_with : (own : List Event) (more : List Pair) → added own ≡ more
          → pairs_at (file_of new) ≡ pairs_in (coming_in old) ++ more
          → pairs_at (file_of new) ≡ pairs_at (file_of old) ++ (added others ++ added own)
      came_with own more adds_is is =
          is ∙ ap (λ ps. ps ++ more) comes.pairs
          ∙ append_assoc (pairs_at (file_of old)) (added others) more
          ∙ ap (λ ps. pairs_at (file_of old) ++ (added others ++ ps)) (sym adds_is)

      came_read : reading (file_of new) ≡ Ok (coming_in old)
          → pairs_at (file_of new) ≡ pairs_in (coming_in old) ++ []
      came_read read =
          ap pairs_in (frames_is (file_of new) (coming_in old) read)
          ∙ sym (append-nil (pairs_in (coming_in old)))

      -- others' events alone
      only_others : reading (file_of new) ≡ Ok (coming_in old) → is_some new.turns.mark ≡ true
          → view_of new.seen (file_of new) ≡ before → Follows (further h others) new
      only_others read whole view =
          subst (λ (es : List Event). Follows (further h es) new) (append-nil others)
          (goes_on others [] comes.history comes.apart (own-none h.run)
          (came_with [] [] refl (came_read read))
          (still_whole (before ++ []) whole (view ∙ sym (append-nil before))))

      looked : (key : List ℕ) (outs : OutSet) (o : Option Hit)
          → found_as (shows new) o ≡ found artifact_in key outs before
          → reading (file_of new) ≡ Ok (coming_in old) → is_some new.turns.mark ≡ true
          → view_of new.seen (file_of new) ≡ before → IsLook h others key outs o new
      looked key outs o answers read whole view =
          let only = only_others read whole view in
          record {
            follows = goes_on others (Look h.run key outs ∷ []) comes.history comes.apart
                (own-look h.run key outs)
                (came_with (Look h.run key outs ∷ []) [] refl (came_read read))
                (still_whole (before ++ []) whole (view ∙ sym (append-nil before)));
            answers = answers ∙ sym (ap (found_in artifact_in key outs)
                (only.view ∙ still_whole before whole view));
          }

      put_all_of : (more : List Pair) → pairs_at (file_of new) ≡ pairs_in (coming_in old) ++ more
          → is_some new.turns.mark ≡ true → view_of new.seen (file_of new) ≡ before ++ more
          → Follows (further h (others ++ adds h.run more)) new
      put_all_of more file whole view =
          goes_on others (adds h.run more) comes.history comes.apart (own-adds h.run more)
          (came_with (adds h.run more) more (added-adds h.run more) file)
          (still_whole (before ++ more) whole view
          ∙ sym (ap (λ b. if b then None else Some (before ++ added (adds h.run more)))
          (uncut-adds h.run more)
          ∙ ap (λ ps. Some (before ++ ps)) (added-adds h.run more)))

      module _ (none : new.turns.mark ≡ None) where
        -- the first frames of those that were to come
        cut_off : HoldsFirst (length (frames_in old)) (coming_in old) (file_of new)
            → IsCutOff h others new
        cut_off (n, least, le, is) =
            let fs = frames_in old in
            let coming = coming_in old in
            let here : frames_of (file_of new) ≡ take n coming =
            frames_is (file_of new) (take n coming) is in
            let (xs, some) = pairs_start fs (take n coming) (front_long fs coming starts n least) in
            let (ys, all) = pairs_start (take n coming) coming
            (drop n coming, sym (take-append-drop n coming)) in
            let split : added others ≡ xs ++ ys =
            behind_same (pairs_in fs) (added others) (xs ++ ys)
            (sym comes.pairs ∙ all ∙ ap (λ ps. ps ++ ys) some ∙ append_assoc (pairs_in fs) xs ys) in
            let (part, rest, parts, adds_part) = added-split others xs ys split in
            record {
              part = part;
              came = (rest, parts);
              follows = goes_on part (Cut h.run ∷ [])
                  (coming-front h.run h.earlier h.later part rest
                  (subst (λ (es : List Event). IsHistory (events_in (further h es))) parts
                  comes.history))
                  (apart-front h.run part rest
                  (ap (events_of h.run) (sym parts) ∙ comes.apart))
                  (own-cut h.run)
                  (ap pairs_in here ∙ some
                  ∙ ap (λ ps. pairs_in fs ++ ps) (sym (append-nil (added part) ∙ adds_part)))
                  (not_whole none);
            }

        cut_behind : (more : List Pair) (count : ℕ) → count ≤ length more
            → pairs_at (file_of new) ≡ pairs_in (coming_in old) ++ take count more
            → IsCutBehind h others more new
        cut_behind more count few file =
            let part = take count more in
            let own = adds h.run part ++ Cut h.run ∷ [] in
            let adds_is : added own ≡ part =
            added-append (adds h.run part) (Cut h.run ∷ [])
            ∙ append-nil (added (adds h.run part)) ∙ added-adds h.run part in
            record {
              count = count;
              few = few;
              follows = goes_on others own comes.history comes.apart
                  (own-adds_then h.run part (Cut h.run ∷ []) (own-cut h.run))
                  (came_with own part adds_is file)
                  (not_whole none
                  ∙ sym (ap (λ b. if b then None else Some (before ++ added own))
                  (cut-adds h.run part)));
            }

  -- ---- the calls

  pub looks_steps : (r : Result (Option Hit) CacheErr) (key : List ℕ) (outs : OutSet)
      → IfOk r (λ o. found_as (shows new) o ≡ found artifact_in key outs before)
      → view_of new.seen (file_of new) ≡ before → StaysWhole r true (is_some new.turns.mark)
      → OnErr r (new.turns.mark ≡ None) → OnOk r (reading (file_of new) ≡ Ok (coming_in old))
      → HoldsFirst (length (frames_in old)) (coming_in old) (file_of new)
      → Looks old new key outs r
  looks_steps (Ok o) key outs answers view whole none read first = λ h others f comes.
      looked h f others comes key outs o answers read whole view
  looks_steps (Err e) key outs answers view whole none read first = λ h others f comes.
      cut_off h f others comes none first

  pub reads_steps : {T : Type 0} (r : Result T CacheErr)
      → view_of new.seen (file_of new) ≡ before → StaysWhole r true (is_some new.turns.mark)
      → OnErr r (new.turns.mark ≡ None) → OnOk r (reading (file_of new) ≡ Ok (coming_in old))
      → HoldsFirst (length (frames_in old)) (coming_in old) (file_of new)
      → Reads old new r
  reads_steps (Ok x) view whole none read first = λ h others f comes.
      only_others h f others comes read whole view
  reads_steps (Err e) view whole none read first = λ h others f comes.
      cut_off h f others comes none first

  pub adds_ok : {T : Type 0} (puts : T) (more : List Pair)
      → pairs_at (file_of new) ≡ pairs_in (coming_in old) ++ more
      → is_some new.turns.mark ≡ true → view_of new.seen (file_of new) ≡ before ++ more
      → Adds {T = T} old new more (Ok puts)
  adds_ok puts more file whole view = λ h others f comes.
      put_all_of h f others comes more file whole view

  adds_failed : (more : List Pair) → new.turns.mark ≡ None
      → HoldsSomePut (length (frames_in old)) (coming_in old) more (file_of new)
      → InEach old (λ h others. IsCutOff h others new ⊎ IsCutBehind h others more new)
  adds_failed more none some = λ h others f comes. ⊎_elim
      (λ first. inl (cut_off h f others comes none first))
      (λ (count, few, file). inr (cut_behind h f others comes none more count few file))
      some

  pub adds_err : {T : Type 0} (r : Result T CacheErr) (e : CacheErr) → r ≡ Err e
      → (more : List Pair) → new.turns.mark ≡ None
      → HoldsSomePut (length (frames_in old)) (coming_in old) more (file_of new)
      → Adds old new more r
  adds_err {T = T} r e is more none some =
      subst (λ (q : Result T CacheErr). Adds old new more q) (sym is) (adds_failed more none some)
