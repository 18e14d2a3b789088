-- Pairs that are put into a store.
use Rattle.std.proofs.Common.{◌≡◌, ◌≤◌, ◌<◌, ℕ, ◌+◌, ◌^◌, List, [], ◌∷◌, ◌++◌, length, map, take, Some, refl, sym, ◌∙◌, ap, subst, arith}
use Rattle.std.specs.Prelude.{IsTrue, All}
use Rattle.std.proofs.lemmas.List.Elements.{All-nil, All-cons}
use Rattle.codes.specs.Codes.{Each}
use Rattle.store_dev.specs.Moments.{started, leaves_more, leaves_then}
use Rattle.store_dev.specs.declared.device.StoreDevice.{Ghosts}
use Rattle.cache_api.specs.declared.puts.Put.TheVariants.{Stored}
use Rattle.cache_api.specs.Moments.{Leaves}
use Rattle.cache_api.specs.Pairs as cache
use Rattle.cache_api.specs.Pairs.{Pair, IsPartSince}
use Rattle.cache_api.specs.Memory.{capped}
use Rattle.record_log.specs.Kinds.{Entry}
use Rattle.record_log.specs.Frames.{opened}
use Rattle.pair_frames.specs.Puts.{put_size, added}
use Rattle.pair_frames.specs.Laws.{AreTexts}
use Rattle.pair_frames.proofs.Several.{several_writable}
use Rattle.pair_writer.specs.Putting.{put_of}
use Rattle.artifact_store.specs.declared.store.Store.{Store}
use Rattle.artifact_store.specs.Outcomes.{outcomes}
use Rattle.artifact_store.specs.Pairs.{told_as}
use Rattle.artifact_store.specs.Laws.{images_told, at_device}
use Rattle.artifact_store.specs.Store.{device_of, state_of, frames_of, moment_of, left_of}
use Rattle.artifact_store.specs.Fits.{texts_put, outcomes_fit, kept_chosen}
use Rattle.compact.specs.Room.{free_behind, lacking, AllFit}
use Rattle.compact.specs.Sources.{PutsOn, IsOfGeneration}
use Rattle.compact.proofs.Fitting.{all_true, fit_all, kept_all, lacking_all, lacking_not}

-- ---- what comes of pairs that all fit

module _ (room : ℕ) (fs : List Entry) (pairs : List Pair) (texts : Each AreTexts pairs)
    (small : length (opened fs) + room < 2 ^ 64) (fits : AllFit room fs pairs) where
  all_outcomes : outcomes room fs pairs ≡ map put_of (all_true pairs)
  all_outcomes =
      outcomes_fit room fs pairs (texts_put pairs room fs (several_writable pairs room fs texts small))
      ∙ ap (map put_of) (fit_all pairs room fs fits)

  pub all_chosen : cache.chosen pairs (outcomes room fs pairs) ≡ pairs
  all_chosen =
      ap (cache.chosen pairs) all_outcomes
      ∙ sym (kept_chosen (all_true pairs) pairs) ∙ kept_all pairs

  pub all_stored : All (λ put. put ≡ Stored) (outcomes room fs pairs)
  all_stored = subst (λ l. All (λ put. put ≡ Stored) l) (sym all_outcomes) (stored pairs)
    where
      stored : (ps : List Pair) → All (λ put. put ≡ Stored) (map put_of (all_true ps))
      stored [] = All-nil (λ put. put ≡ Stored)
      stored (p ∷ ps) = All-cons (λ put. put ≡ Stored) Stored (map put_of (all_true ps)) refl (stored ps)

-- ---- a store that is whole

module _ {S : Type 0} {G : Ghosts S} where
  pub room_is : (store : Store S G) → IsTrue (state_of store).whole → G.tells
      → (state_of store).room ≡ free_behind (frames_of store)
  room_is store whole told =
      let kept = store.log.kept whole told in
      omega (arith, kept.index.end)

  pub room_small : (store : Store S G) → IsTrue (state_of store).whole → G.tells
      → length (G.content (device_of store)) < 2 ^ 63
      → length (opened (frames_of store)) + (state_of store).room < 2 ^ 64
  room_small store whole told few =
      let kept = store.log.kept whole told in
      omega (arith, kept.rest.place, kept.rest.inside, few)

  -- ---- what it leaves

  -- nothing was done
  pub puts_none : (store : Store S G) → IsTrue (state_of store).whole
      → ((c : List ℕ) → G.images_since (device_of store) (G.moment (device_of store)) c → G.images (device_of store) c)
      → PutsOn store store
  puts_none store whole only = record {
    base = refl;
    images = λ told.
        started G.moment G.images_since (device_of store) (IsOfGeneration (state_of store).base)
        (λ c left. ((state_of store).pairs, images_told (store.log.kept whole told) store.generation (store.same whole told) c (only c left)));
  }

  -- pairs were put
  pub puts_put : (old new : Store S G) (chosen : List Pair)
      → (state_of new).base ≡ (state_of old).base
      → (G.tells → Leaves moment_of left_of old new
      (λ image. IsPartSince (state_of old).lasting ((state_of old).pairs ++ chosen) (told_as (state_of old).base image)))
      → PutsOn old new
  puts_put old new chosen base left = record {
    base = base;
    images = λ told.
        leaves_more G.moment G.images_since (device_of old) (device_of new)
        (λ c. IsPartSince (state_of old).lasting ((state_of old).pairs ++ chosen) (told_as (state_of old).base c))
        (IsOfGeneration (state_of old).base)
        (at_device old new (λ c. IsPartSince (state_of old).lasting ((state_of old).pairs ++ chosen) (told_as (state_of old).base c)) (left told))
        (λ c (n, at, is). (take n ((state_of old).pairs ++ chosen), is));
  }

  -- it was read
  pub puts_read : (old new : Store S G) → (state_of new).base ≡ (state_of old).base
      → (G.tells → Leaves moment_of left_of old new
      (λ image. IsPartSince (state_of old).lasting (state_of old).pairs (told_as (state_of old).base image)))
      → PutsOn old new
  puts_read old new base left = record {
    base = base;
    images = λ told.
        leaves_more G.moment G.images_since (device_of old) (device_of new)
        (λ c. IsPartSince (state_of old).lasting (state_of old).pairs (told_as (state_of old).base c))
        (IsOfGeneration (state_of old).base)
        (at_device old new (λ c. IsPartSince (state_of old).lasting (state_of old).pairs (told_as (state_of old).base c)) (left told))
        (λ c (n, at, is). (take n (state_of old).pairs, is));
  }

  -- one after the other
  pub puts_both : (a b d : Store S G) → PutsOn a b → PutsOn b d → PutsOn a d
  puts_both a b d x y = record {
    base = y.base ∙ x.base;
    images = λ told.
        leaves_then G.moment G.images_since (device_of a) (device_of b) (device_of d)
        (IsOfGeneration (state_of a).base) (IsOfGeneration (state_of b).base)
        (IsOfGeneration (state_of a).base) (x.images told) (y.images told)
        (λ c p. p) (λ c p. subst (λ (n : ℕ). IsOfGeneration n c) x.base p);
  }

-- ---- what lacks room

-- those that were put by these frames
pub put_lacks : (room : ℕ) (fs gs : List Entry) (pairs news : List Pair)
    → room ≡ free_behind fs → news ≡ pairs → AllFit room fs pairs → gs ≡ fs ++ added room fs news
    → (generation : ℕ) (rest : List Pair)
    → lacking generation fs (pairs ++ rest) ≡ lacking generation gs rest
put_lacks room fs gs pairs news is same fits frames generation rest =
    lacking_all generation pairs rest room fs is fits
    ∙ ap (λ (l : List Entry). lacking generation l rest) (ap (λ (l : List Pair). fs ++ added room fs l) (sym same) ∙ sym frames)

-- the pair for which there is not enough
pub alone_lacks : (room need : ℕ) (fs : List Entry) (pair : Pair) → room ≡ free_behind fs
    → need ≡ capped (put_size fs pair) → room < need → (generation : ℕ) (rest : List Pair)
    → lacking generation fs (pair ∷ rest) ≡ Some (record { need = need; free = room })
alone_lacks room need fs pair is size short generation rest =
    let more : free_behind fs < put_size fs pair = omega (arith, is, size, short) in
    lacking_not generation fs pair rest more
    ∙ (λ i. Some (record { need = sym size i; free = sym is i }))

-- and the one for which there is
pub alone_fits : (room need : ℕ) (fs : List Entry) (pair : Pair) → room ≡ free_behind fs
    → need ≡ capped (put_size fs pair) → need ≤ room → AllFit room fs (pair ∷ [])
alone_fits room need fs pair is size le = (omega (arith, is, size, le), tt)
