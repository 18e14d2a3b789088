-- Pairs that are put part by part.
use Rattle.std.proofs.Common.{◌≡◌, ◌≤◌, ◌<◌, ℕ, ◌+◌, ◌-◌, true, List, [], ◌∷◌, ◌++◌, length, take, drop, get_or, Ok, Err, refl, sym, ◌∙◌, ap, subst, arith, append_assoc}
use Rattle.std.specs.Prelude.{IsTrue}
use Rattle.std.proofs.lemmas.List.{append-nil, length-drop, drop-drop, drop_all, take_all, length-map, drop-map}
use Rattle.std.proofs.lemmas.List.Elements.{All-nil, All-cons, All-head, All-drop}
use Rattle.std.proofs.Math.Seq.{take-add}
use Rattle.store_dev.specs.declared.device.StoreDevice.{Ghosts}
use Rattle.cache_api.specs.Pairs.{Pair}
use Rattle.record_log.specs.Kinds.{Entry}
use Rattle.artifact_store.specs.declared.store.Store.{Store}
use Rattle.artifact_store.specs.Store.{state_of, frames_of, OnlyReadsStore}
use Rattle.artifact_store.proofs.Carry.{reads_both}
use Rattle.compact.specs.declared.error.CompactErr.{CompactErr}
use Rattle.compact.specs.declared.error.CompactErr.TheVariants.{From, To, NoRoom, LastGeneration, Failed, OutOfMemory}
use Rattle.compact.specs.Chosen.{is_useful}
use Rattle.compact.specs.Picks.{AreUseful, pair_of, pairs_at}
use Rattle.compact.specs.Room.{lacking}
use Rattle.compact.specs.Sources.{IsPut, IsPutInPart, PutsOn}
use Rattle.compact.proofs.Seeking.{reads_none, pairs_read}
use Rattle.compact.proofs.Filling.{puts_both}

-- ---- one part and those behind it

pub first_pair : (pairs : List Pair) (numbers : List ℕ) → 0 < length numbers
    → pairs_at pairs numbers
    ≡ (pair_of pairs (get_or numbers 0 0) ∷ []) ++ drop 1 (pairs_at pairs numbers)
first_pair pairs [] some = absurd (omega arith)
first_pair pairs (n ∷ numbers) some = refl

pub take_first : (pairs : List Pair) (numbers : List ℕ) → 0 < length numbers
    → take 1 (pairs_at pairs numbers) ≡ pair_of pairs (get_or numbers 0 0) ∷ []
take_first pairs [] some = absurd (omega arith)
take_first pairs (n ∷ numbers) some = refl

-- it is useful, where all are
pub useful_first : (pairs now : List Pair) (numbers : List ℕ) → now ≡ pairs → 0 < length numbers
    → AreUseful (pairs_at pairs numbers) → AreUseful (pair_of now (get_or numbers 0 0) ∷ [])
useful_first pairs now [] same some all = absurd (omega arith)
useful_first pairs now (n ∷ numbers) same some all =
    let Useful : Pair → Type 0 = λ p. is_useful p ≡ true in
    subst (λ (l : List Pair). AreUseful (pair_of l n ∷ [])) (sym same)
    (All-cons Useful (pair_of pairs n) [] (All-head Useful (pair_of pairs n) (pairs_at pairs numbers) all) (All-nil Useful))

pub part_lacks : (e : CompactErr) (fs gs hs : List Entry) (all some back : List Pair)
    → all ≡ some ++ back → IsPut {T = Unit {0}} (Err e) fs some gs → IsPutInPart (Err e) fs all hs
part_lacks (From fault) fs gs hs all some back is x = tt
part_lacks (To fault) fs gs hs all some back is x = tt
part_lacks (NoRoom n f) fs gs hs all some back is x = λ generation rest.
    ap (λ (l : List Pair). lacking generation fs (l ++ rest)) is
    ∙ ap (lacking generation fs) (append_assoc some back rest) ∙ x generation (back ++ rest)
part_lacks LastGeneration fs gs hs all some back is x = tt
part_lacks Failed fs gs hs all some back is x = tt
part_lacks OutOfMemory fs gs hs all some back is x = tt

pub part_put : (fs gs : List Entry) (all some back : List Pair) → all ≡ some ++ back
    → IsPut {T = Unit {0}} (Ok tt) fs some gs → (generation : ℕ) (rest : List Pair)
    → lacking generation fs (all ++ rest) ≡ lacking generation gs (back ++ rest)
part_put fs gs all some back is x generation rest =
    ap (λ (l : List Pair). lacking generation fs (l ++ rest)) is
    ∙ ap (lacking generation fs) (append_assoc some back rest) ∙ x generation (back ++ rest)

-- ---- part by part

-- while pairs are put, of which so many are
pub record IsFilling {S P : Type 0} {G : Ghosts S} {H : Ghosts P} (from now_from : Store S G)
    (to now_to : Store P H) (numbers : List ℕ) (place : ℕ) : Type 0 where
  pub reads : OnlyReadsStore from now_from
  pub from_faults : (state_of now_from).faults ≡ (state_of from).faults
  pub puts : PutsOn to now_to
  pub whole : IsTrue (state_of now_to).whole
  pub to_faults : (state_of now_to).faults ≡ (state_of to).faults
  pub inside : place ≤ length numbers
  pub pairs : G.tells → H.tells → (state_of now_to).pairs
      ≡ (state_of to).pairs ++ take place (pairs_at (state_of from).pairs numbers)
  pub room : G.tells → H.tells → (generation : ℕ) (rest : List Pair)
      → lacking generation (frames_of to) (pairs_at (state_of from).pairs numbers ++ rest)
      ≡ lacking generation (frames_of now_to) (drop place (pairs_at (state_of from).pairs numbers) ++ rest)

-- those behind a place, of a store that was read since
pub pairs_behind : (pairs now : List Pair) (numbers : List ℕ) (place : ℕ) → now ≡ pairs
    → pairs_at now (drop place numbers) ≡ drop place (pairs_at pairs numbers)
pairs_behind pairs now numbers place same =
    ap (λ (l : List Pair). pairs_at l (drop place numbers)) same
    ∙ sym (drop-map (pair_of pairs) place numbers)

module _ {S P : Type 0} {G : Ghosts S} {H : Ghosts P} (numbers : List ℕ) where
  pub filling_first : (from : Store S G) (to : Store P H) → IsTrue (state_of to).whole
      → PutsOn to to → IsFilling from from to to numbers 0
  filling_first from to whole puts = record {
    reads = reads_none from;
    from_faults = refl;
    puts = puts;
    whole = whole;
    to_faults = refl;
    inside = omega arith;
    pairs = λ told tells. sym (append-nil (state_of to).pairs);
    room = λ told tells generation rest. refl;
  }

  pub filling_next : (from mid_from new_from : Store S G) (to mid_to new_to : Store P H)
      (place taken : ℕ) (part : List ℕ) → part ≡ drop place numbers
      → IsFilling from mid_from to mid_to numbers place
      → OnlyReadsStore mid_from new_from
      → (state_of new_from).faults ≡ (state_of mid_from).faults → PutsOn mid_to new_to
      → IsTrue (state_of new_to).whole → (state_of new_to).faults ≡ (state_of mid_to).faults
      → taken ≤ length part
      → (G.tells → H.tells → (state_of new_to).pairs ≡ (state_of mid_to).pairs
      ++ take taken (pairs_at (state_of mid_from).pairs part))
      → (G.tells → H.tells → IsPutInPart (Ok taken) (frames_of mid_to)
      (pairs_at (state_of mid_from).pairs part) (frames_of new_to))
      → IsFilling from new_from to new_to numbers (place + taken)
  filling_next from mid_from new_from to mid_to new_to place taken part is x reads from_same puts whole to_same few more room = record {
    reads = reads_both from mid_from new_from x.reads reads;
    from_faults = from_same ∙ x.from_faults;
    puts = puts_both to mid_to new_to x.puts puts;
    whole = whole;
    to_faults = to_same ∙ x.to_faults;
    inside = omega (arith, few, x.inside, ap length is, length-drop place numbers);
    pairs = λ told tells.
        let all = pairs_at (state_of from).pairs numbers in
        more told tells
        ∙ (λ i. x.pairs told tells i ++ take taken (behind i))
        ∙ append_assoc (state_of to).pairs (take place all) (take taken (drop place all))
        ∙ ap (λ (l : List Pair). (state_of to).pairs ++ l) (sym (take-add place taken all));
    room = λ told tells generation rest.
        let all = pairs_at (state_of from).pairs numbers in
        x.room told tells generation rest
        ∙ ap (λ (l : List Pair). lacking generation (frames_of mid_to) (l ++ rest)) (sym behind)
        ∙ room told tells generation rest
        ∙ ap (λ (l : List Pair). lacking generation (frames_of new_to) (drop taken l ++ rest)) behind
        ∙ ap (λ (l : List Pair). lacking generation (frames_of new_to) (l ++ rest)) (drop-drop taken place all);
  }
    where
      behind : pairs_at (state_of mid_from).pairs part ≡ drop place (pairs_at (state_of from).pairs numbers)
      behind = ap (pairs_at (state_of mid_from).pairs) is ∙ pairs_behind (state_of from).pairs (state_of mid_from).pairs numbers place (pairs_read from mid_from x.reads)

  -- all of them
  pub filling_pairs : (from now_from : Store S G) (to now_to : Store P H) (place : ℕ)
      → IsFilling from now_from to now_to numbers place → length numbers ≤ place → G.tells
      → H.tells → (state_of now_to).pairs
      ≡ (state_of to).pairs ++ pairs_at (state_of from).pairs numbers
  filling_pairs from now_from to now_to place x all told tells =
      let pairs = pairs_at (state_of from).pairs numbers in
      x.pairs told tells
      ∙ ap (λ (l : List Pair). (state_of to).pairs ++ l) (take_all place pairs (omega (arith, all, length-map numbers (pair_of (state_of from).pairs))))

  pub filling_room : (from now_from : Store S G) (to now_to : Store P H) (place : ℕ)
      → IsFilling from now_from to now_to numbers place → length numbers ≤ place → G.tells
      → H.tells → IsPut {T = Unit {0}} (Ok tt) (frames_of to) (pairs_at (state_of from).pairs numbers) (frames_of now_to)
  filling_room from now_from to now_to place x all told tells generation rest =
      let pairs = pairs_at (state_of from).pairs numbers in
      x.room told tells generation rest
      ∙ ap (λ (l : List Pair). lacking generation (frames_of now_to) (l ++ rest)) (drop_all place pairs (omega (arith, all, length-map numbers (pair_of (state_of from).pairs))))

  -- one of them lacks room
  pub filling_lacks : (e : CompactErr) (from mid_from : Store S G) (to mid_to : Store P H)
      (hs gs : List Entry) (place : ℕ) (part : List ℕ) → part ≡ drop place numbers
      → IsFilling from mid_from to mid_to numbers place
      → IsPutInPart (Err e) (frames_of mid_to)
      (pairs_at (state_of mid_from).pairs part) hs → G.tells → H.tells
      → IsPut {T = Unit {0}} (Err e) (frames_of to) (pairs_at (state_of from).pairs numbers) gs
  filling_lacks (From fault) from mid_from to mid_to hs gs place part is x lacks told tells = tt
  filling_lacks (To fault) from mid_from to mid_to hs gs place part is x lacks told tells = tt
  filling_lacks (NoRoom n f) from mid_from to mid_to hs gs place part is x lacks told tells = λ generation rest.
      let behind = ap (pairs_at (state_of mid_from).pairs) is ∙ pairs_behind (state_of from).pairs (state_of mid_from).pairs numbers place (pairs_read from mid_from x.reads) in
      x.room told tells generation rest
      ∙ ap (λ (l : List Pair). lacking generation (frames_of mid_to) (l ++ rest)) (sym behind)
      ∙ lacks generation rest
  filling_lacks LastGeneration from mid_from to mid_to hs gs place part is x lacks told tells = tt
  filling_lacks Failed from mid_from to mid_to hs gs place part is x lacks told tells = tt
  filling_lacks OutOfMemory from mid_from to mid_to hs gs place part is x lacks told tells = tt

-- what is behind a place, as a slice of it is
pub behind_is : (numbers : List ℕ) (place : ℕ)
    → take (length numbers - place) (drop place numbers) ≡ drop place numbers
behind_is numbers place =
    take_all (length numbers - place) (drop place numbers) (omega (arith, length-drop place numbers))

pub useful_behind : (pairs now : List Pair) (numbers part : List ℕ) (place : ℕ) → now ≡ pairs
    → part ≡ drop place numbers → AreUseful (pairs_at pairs numbers)
    → AreUseful (pairs_at now part)
useful_behind pairs now numbers part place same is all =
    subst AreUseful (sym (ap (pairs_at now) is ∙ pairs_behind pairs now numbers place same))
    (All-drop (λ p. is_useful p ≡ true) place (pairs_at pairs numbers) all)
