-- What becomes of pairs that are put, and the room that they want.
use Rattle.std.proofs.Common.{◌≡◌, ℕ, zero, suc, ◌+◌, ◌-◌, ◌<◌, ◌≤◌, Bool, true, false, cond, List, [], ◌∷◌, ◌++◌, map, refl, sym, ◌∙◌, ap, subst, arith}
use Rattle.std.specs.Prelude.{◌&&◌, nat_le, sum_by}
use Rattle.std.proofs.lemmas.Bool.{and_parts, lt-ltb, ltb-true, leb-true, leb-false}
use Rattle.std.proofs.lemmas.List.{length-map}
use Rattle.codes.specs.Codes.{AreBytes, Each}
use Rattle.cache_api.specs.declared.puts.Put.{Put}
use Rattle.cache_api.specs.declared.puts.Put.TheVariants.{Stored, Full}
use Rattle.cache_api.specs.Pairs.{Pair, chosen}
use Rattle.cache_api.specs.Cache.{CacheState, due_in, ample, ArePut, AreToPut, NoRoomFor, NoRoomBehind}
use Rattle.cache_api.proofs.Firsts.{none_due}
use Rattle.store_dev.specs.declared.device.StoreDevice.{Ghosts}
use Rattle.record_log.specs.Kinds.{Entry}
use Rattle.pair_frames.specs.Laws.{AreTexts, AllPut}
use Rattle.pair_frames.specs.Puts.{put_frames, put_size, fit, kept}
use Rattle.pair_frames.proofs.Sizes.{size_ample}
use Rattle.pair_frames.proofs.Several.{several_even}
use Rattle.pair_writer.specs.Putting.{put_of}
use Rattle.artifact_store.specs.declared.store.Store.{Store}
use Rattle.artifact_store.specs.Outcomes.{are_bytes, are_texts, outcomes}
use Rattle.artifact_store.specs.Store.{frames_of, state_of, stores}

-- ---- texts

and_true : {a b : Bool} → a ≡ true → b ≡ true → (a && b) ≡ true
and_true x y = λ i. x i && y i

bytes_true : (bytes : List ℕ) → AreBytes bytes → are_bytes bytes ≡ true
bytes_true [] all = refl
bytes_true (b ∷ bytes) all = and_true (lt-ltb b 256 (all 0)) (bytes_true bytes (λ i. all (suc i)))

true_bytes : (bytes : List ℕ) → are_bytes bytes ≡ true → AreBytes bytes
true_bytes [] is i = omega arith
true_bytes (b ∷ bytes) is zero = ltb-true b 256 (and_parts _ _ is).0
true_bytes (b ∷ bytes) is (suc i) = true_bytes bytes (and_parts _ _ is).1 i

true_texts : (pairs : List Pair) → are_texts pairs ≡ true → Each AreTexts pairs
true_texts [] is = tt
true_texts (p ∷ pairs) is =
    let parts = and_parts _ _ is in
    let both = and_parts _ _ parts.0 in
    (record { key = true_bytes p.0 both.0; value = true_bytes p.1 both.1 }, true_texts pairs parts.1)

pub texts_put : (pairs : List Pair) (room : ℕ) (fs : List Entry) → AllPut room fs pairs → are_texts pairs ≡ true
texts_put [] room fs all = refl
texts_put (p ∷ pairs) room fs all =
    and_true (and_true (bytes_true p.0 all.0.key) (bytes_true p.1 all.0.value))
    (texts_put pairs _ _ all.2)

pub outcomes_fit : (room : ℕ) (fs : List Entry) (pairs : List Pair) → are_texts pairs ≡ true
    → outcomes room fs pairs ≡ map put_of (fit room fs pairs)
unfolding outcomes
outcomes_fit room fs pairs is =
    ap (λ (b : Bool). cond b (map put_of (fit room fs pairs)) (map (λ (p : Pair). Stored) pairs)) is

-- ---- those that are put

pub kept_chosen : (fits : List Bool) (pairs : List Pair) → kept fits pairs ≡ chosen pairs (map put_of fits)
kept_chosen [] [] = refl
kept_chosen [] (p ∷ pairs) = refl
kept_chosen (true ∷ fits) [] = refl
kept_chosen (false ∷ fits) [] = refl
kept_chosen (true ∷ fits) (p ∷ pairs) = ap (λ (l : List Pair). p ∷ l) (kept_chosen fits pairs)
kept_chosen (false ∷ fits) (p ∷ pairs) = kept_chosen fits pairs

-- ---- the room that is wanting

behind_by : (b : Bool) (room taken left : ℕ) (fs : List Entry) (p : Pair) (pairs : List Pair)
    → b ≡ nat_le (put_size fs p) left → room ≤ taken + left → put_size fs p ≤ ample p
    → ((t l : ℕ) (gs : List Entry) → room ≤ t + l → NoRoomBehind room t pairs (map put_of (fit l gs pairs)))
    → NoRoomBehind room taken (p ∷ pairs)
    (map put_of (cond b (true ∷ fit (left - put_size fs p) (fs ++ put_frames fs p) pairs) (false ∷ fit left fs pairs)))
behind_by true room taken left fs p pairs is le size more =
    let fits : put_size fs p ≤ left = leb-true (put_size fs p) left (sym is) in
    more (taken + ample p) (left - put_size fs p) (fs ++ put_frames fs p) (omega (arith, le, size, fits))
behind_by false room taken left fs p pairs is le size more =
    let short : left < put_size fs p = leb-false (put_size fs p) left (sym is) in
    (omega (arith, le, size, short), more taken left fs le)

no_room : (pairs : List Pair) (room taken left : ℕ) (fs : List Entry) → Each AreTexts pairs → room ≤ taken + left
    → NoRoomBehind room taken pairs (map put_of (fit left fs pairs))
no_room [] room taken left fs texts le = tt
no_room (p ∷ pairs) room taken left fs texts le =
    behind_by (nat_le (put_size fs p) left) room taken left fs p pairs refl le (size_ample fs p texts.0)
    (λ t l gs more. no_room pairs room t l gs texts.1 more)

all_stored : (pairs : List Pair) (room taken : ℕ) → NoRoomBehind room taken pairs (map (λ (p : Pair). Stored) pairs)
all_stored [] room taken = tt
all_stored (p ∷ pairs) room taken = all_stored pairs room (taken + ample p)

to_put_by : {B : Type 0} (state : CacheState B) (b : Bool) (left : ℕ) (fs : List Entry) (pairs : List Pair)
    → due_in state ≡ [] → state.room ≤ left → (b ≡ true → Each AreTexts pairs)
    → AreToPut state pairs (cond b (map put_of (fit left fs pairs)) (map (λ (p : Pair). Stored) pairs))
to_put_by state true left fs pairs none le texts = record {
  even = length-map (fit left fs pairs) put_of ∙ several_even pairs left fs;
  full = subst (λ (due : List Pair). NoRoomBehind state.room (sum_by ample due) pairs (map put_of (fit left fs pairs)))
      (sym none) (no_room pairs state.room 0 left fs (texts refl) (omega (arith, le)));
}
to_put_by state false left fs pairs none le texts = record {
  even = length-map pairs (λ (p : Pair). Stored);
  full = all_stored pairs state.room (sum_by ample (due_in state));
}

-- where nothing is due and there is no more room than these frames leave, pairs find all that there is
pub room_to_put : {B : Type 0} (state : CacheState B) (left : ℕ) (fs : List Entry) (pairs : List Pair)
    → due_in state ≡ [] → state.room ≤ left → AreToPut state pairs (outcomes left fs pairs)
unfolding outcomes
room_to_put state left fs pairs none le =
    to_put_by state (are_texts pairs) left fs pairs none le (true_texts pairs)

pub are_to_put : {S : Type 0} {G : Ghosts S} (store : Store S G) (pairs : List Pair)
    → AreToPut (state_of store) pairs (stores store pairs)
are_to_put store pairs =
    room_to_put (state_of store) (state_of store).room (frames_of store) pairs (none_due (state_of store).pairs) (omega arith)

-- with less room there is none either
less_room : (puts : List Put) (pairs : List Pair) (room less : ℕ) → less ≤ room → NoRoomFor room pairs puts
    → NoRoomFor less pairs puts
less_room puts [] room less le none = tt
less_room [] (p ∷ pairs) room less le none = tt
less_room (Stored ∷ puts) (p ∷ pairs) room less le none = less_room puts pairs room less le none
less_room (Full ∷ puts) (p ∷ pairs) room less le none =
    (omega (arith, le, none.0), less_room puts pairs room less le none.1)

pub are_put_less : (room less : ℕ) (pairs : List Pair) (puts : List Put) → less ≤ room → ArePut room pairs puts
    → ArePut less pairs puts
are_put_less room less pairs puts le x =
    record { even = x.even; full = less_room puts pairs room less le x.full }
