-- Pairs for which a store has room.
use Rattle.std.proofs.Common.{◌≡◌, ℕ, ◌-◌, ◌≤◌, Bool, true, false, cond, List, [], ◌∷◌, ◌++◌}
use Rattle.std.proofs.Common.{length, map, Option, Some, None, refl, ◌∙◌, ap, arith, length-append}
use Rattle.std.specs.Prelude.{nat_le, sum_by}
use Rattle.std.proofs.lemmas.Bool.{le-leb}
use Rattle.std.proofs.lemmas.List.{append-nil}
use Rattle.store_dev.specs.declared.device.StoreDevice.{Ghosts}
use Rattle.cache_api.specs.declared.puts.Put.TheVariants.{Stored}
use Rattle.cache_api.specs.Pairs.{Pair}
use Rattle.cache_api.specs.Cache.{ample}
use Rattle.cache_api.proofs.Firsts.{none_due}
use Rattle.record_log.specs.Kinds.{Entry}
use Rattle.record_log.specs.Frames.{opened}
use Rattle.record_log.specs.Texts.{opened_append}
use Rattle.pair_frames.specs.Puts.{put_frames, put_size, fit, added}
use Rattle.pair_writer.specs.Putting.{put_of}
use Rattle.artifact_store.specs.declared.store.Store.{Store}
use Rattle.artifact_store.specs.Outcomes.{are_texts, outcomes}
use Rattle.artifact_store.specs.Store as store
use Rattle.artifact_store.specs.Fits.{are_to_put}
use Rattle.relay_store.specs.declared.part.Part.{Part}
use Rattle.relay_store.specs.Access.{is_there}
use Rattle.relay_store.specs.Stores.{state_in, frames_in, stores_in}
use Rattle.relay_store.specs.Puts.{need, filled, all_stored}
use Rattle.relay_store.specs.Parts.{state_of, space_of, HasRoom, AllFit}
use Rattle.relay_store.proofs.Spaces.{stored_all}

-- ---- one pair

one_by : (b : Bool) (room : ℕ) (fs : List Entry) (pair : Pair) → put_size fs pair ≤ room
    → cond b (map put_of (fit room fs (pair ∷ []))) (map (λ (p : Pair). Stored) (pair ∷ []))
    ≡ Stored ∷ []
one_by true room fs pair le =
    ap (λ (b : Bool). map put_of
    (cond b (true ∷ fit (room - put_size fs pair) (fs ++ put_frames fs pair) [])
    (false ∷ fit room fs [])))
    (le-leb (put_size fs pair) room le)
one_by false room fs pair le = refl

fits_one : (room : ℕ) (fs : List Entry) (pair : Pair) → put_size fs pair ≤ room
    → outcomes room fs (pair ∷ []) ≡ Stored ∷ []
unfolding outcomes
fits_one room fs pair le = one_by (are_texts (pair ∷ [])) room fs pair le

fit_in : {S : Type 0} {G : Ghosts S} (o : Option (Store S G)) (pair : Pair) → is_there o ≡ true
    → put_size (frames_in o) pair ≤ (state_in o).room → stores_in o (pair ∷ []) ≡ Stored ∷ []
fit_in None pair there le = absurd (cc)
fit_in (Some s) pair there le = fits_one (store.state_of s).room (store.frames_of s) pair le

pub fit_one : {S : Type 0} {G : Ghosts S} (part : Part S G) (pair : Pair)
    → is_there part.store ≡ true
    → HasRoom part pair → AllFit part (pair ∷ [])
fit_one part pair there room = fit_in part.store pair there room.size

-- ---- ample room

ample_in : {S : Type 0} {G : Ghosts S} (o : Option (Store S G)) (pairs : List Pair)
    → is_there o ≡ true
    → sum_by ample pairs ≤ (state_in o).room → stores_in o pairs ≡ all_stored pairs
ample_in None pairs there le = absurd (cc)
ample_in (Some s) pairs there le =
    stored_all (store.state_of s) (store.stores s pairs) pairs
    (none_due (store.state_of s).pairs) le (are_to_put s pairs)

pub fit_ample : {S : Type 0} {G : Ghosts S} (part : Part S G) (pairs : List Pair)
    → is_there part.store ≡ true
    → sum_by ample pairs ≤ (state_of part).room → AllFit part pairs
fit_ample part pairs there le = ample_in part.store pairs there le

-- ---- the space behind a pair

added_by : (b : Bool) (room : ℕ) (fs : List Entry) (pair : Pair) → b ≡ true
    → cond b (put_frames fs pair ++ added (room - put_size fs pair) (fs ++ put_frames fs pair) [])
    (added room fs []) ≡ put_frames fs pair
added_by true room fs pair is = append-nil (put_frames fs pair)
added_by false room fs pair is = absurd (cc)

added_one : (room : ℕ) (fs : List Entry) (pair : Pair) → put_size fs pair ≤ room
    → added room fs (pair ∷ []) ≡ put_frames fs pair
added_one room fs pair le = added_by (nat_le (put_size fs pair) room) room fs pair
    (le-leb (put_size fs pair) room le)

room_store : {S : Type 0} {G : Ghosts S} (a b : Store S G) (pair : Pair) → G.tells
    → (store.state_of a).whole ≡ true → (store.state_of b).whole ≡ true
    → store.frames_of b ≡ store.frames_of a ++ put_frames (store.frames_of a) pair
    → put_size (store.frames_of a) pair ≤ (store.state_of a).room
    → (store.state_of b).room ≡ (store.state_of a).room - put_size (store.frames_of a) pair
room_store a b pair told wa wb is le =
    let fs = store.frames_of a in
    let gs = put_frames fs pair in
    omega (
      arith,
      (a.log.kept wa told).index.end,
      (b.log.kept wb told).index.end,
      ap (λ (l : List Entry). length (opened l)) is,
      ap length (opened_append fs gs),
      length-append (opened fs) (opened gs),
      le,
    )

filled_in : {S : Type 0} {G : Ghosts S} (o p : Option (Store S G)) (pair : Pair) → G.tells
    → is_there o ≡ true → is_there p ≡ true
    → (state_in o).whole ≡ true → (state_in p).whole ≡ true
    → frames_in p ≡ frames_in o ++ put_frames (frames_in o) pair
    → put_size (frames_in o) pair ≤ (state_in o).room
    → (state_in p).room ≡ (state_in o).room - put_size (frames_in o) pair
filled_in None p pair told there also wa wb is le = absurd (cc)
filled_in (Some a) None pair told there also wa wb is le = absurd (cc)
filled_in (Some a) (Some b) pair told there also wa wb is le = room_store a b pair told wa wb is le

pub filled_part : {S : Type 0} {G : Ghosts S} (old new : Part S G) (pair : Pair) → G.tells
    → is_there old.store ≡ true → is_there new.store ≡ true
    → (state_of old).whole ≡ true → (state_of new).whole ≡ true → HasRoom old pair
    → frames_in new.store ≡ frames_in old.store ++ added (state_of old).room (frames_in old.store)
    (pair ∷ [])
    → space_of new ≡ filled pair (space_of old)
filled_part old new pair told there also wa wb room is =
    let fs = frames_in old.store in
    let frames = is ∙ ap (λ (l : List Entry). fs ++ l)
    (added_one (state_of old).room fs pair room.size) in
    let needs : need (space_of old) pair ≡ put_size fs pair = omega (arith, room.ample) in
    let left : (state_of new).room ≡ (state_of old).room - need (space_of old) pair =
    omega (
      arith,
      needs,
      filled_in old.store new.store pair told there also wa wb frames
          room.size,
    ) in
    λ i. record { room = left i; frames = frames i }
