-- Pairs that are read for a batch.
use Rattle.std.proofs.Common.{◌≡◌, ◌≤◌, ◌<◌, ℕ, ◌+◌, ◌-◌, ◌^◌, true, false, List, [], ◌∷◌, ◌++◌, length, take, get_or, Option, Some, None, refl, sym, ◌∙◌, ap, subst, arith}
use Rattle.std.specs.Prelude.{min, sum_by, is_some, IfSome, IfNone}
use Rattle.std.proofs.lemmas.List.{map-append, length-map, get_or-map, take_more}
use Rattle.std.proofs.lemmas.List.Sums.{sum_by-append}
use Rattle.codes.specs.Codes.{Each}
use Rattle.store_dev.specs.declared.device.StoreDevice.{Ghosts}
use Rattle.cache_api.specs.Cache.{ample}
use Rattle.cache_api.specs.Memory.{capped}
use Rattle.cache_api.specs.Pairs.{Pair}
use Rattle.cache_api.specs.Reading.{artifact_in}
use Rattle.pair_frames.specs.Laws.{AreTexts}
use Rattle.artifact_store.specs.declared.store.Store.{Store}
use Rattle.artifact_store.specs.Store.{state_of, OnlyReadsStore}
use Rattle.artifact_store.proofs.Carry.{reads_both}
use Rattle.compact.specs.declared.held.Held.{Held}
use Rattle.compact.specs.Picks.{AreUseful, pair_of, pairs_at, held_pair, held_pairs}
use Rattle.compact.proofs.Seeking.{reads_none, pairs_read}

-- while a batch is read: the pairs so far, of which so many numbers were looked at
pub record IsBatching {S : Type 0} {G : Ghosts S} (first now : Store S G) (numbers : List ℕ)
    (most : ℕ) (held : List Held) (room count : ℕ) : Type 0 where
  pub reads : OnlyReadsStore first now
  pub faults : (state_of now).faults ≡ (state_of first).faults
  pub texts : Each AreTexts (held_pairs held)
  pub sum : room ≡ sum_by ample (held_pairs held)
  pub few : room ≤ most
  pub pairs : G.tells
      → held_pairs held ≡ take count (pairs_at (state_of first).pairs numbers)

each_push : (pairs : List Pair) (pair : Pair) → Each AreTexts pairs → AreTexts pair
    → Each AreTexts (pairs ++ pair ∷ [])
each_push [] pair all one = (one, tt)
each_push (p ∷ pairs) pair all one = (all.0, each_push pairs pair all.1 one)

-- the pair of a number at that place
pub pair_there : (pairs : List Pair) (numbers : List ℕ) (i : ℕ) (d : Pair) → i < length numbers
    → get_or (pairs_at pairs numbers) i d ≡ pair_of pairs (get_or numbers i 0)
pair_there pairs numbers i d lt = get_or-map (pair_of pairs) numbers i 0 d lt

useful_some : (value : List ℕ) → is_some (artifact_in value) ≡ true → artifact_in value ≡ None → ⊥
useful_some value useful none =
    let other : is_some (artifact_in value) ≡ false = ap is_some none in
    absurd (cc (useful, other))

-- one of the pairs has an artifact
pub useful_there : (pairs : List Pair) (numbers : List ℕ) (i : ℕ)
    → AreUseful (pairs_at pairs numbers) → i < length numbers
    → artifact_in (pair_of pairs (get_or numbers i 0)).1 ≡ None → ⊥
useful_there pairs numbers i useful lt none =
    let d : Pair = ([], []) in
    let here = useful i d (omega (arith, lt, length-map numbers (pair_of pairs))) in
    useful_some (pair_of pairs (get_or numbers i 0)).1
    (subst (λ (p : Pair). is_some (artifact_in p.1) ≡ true) (pair_there pairs numbers i d lt) here) none

-- what was read, by whether there was an artifact
pub if_none : {X : Type 0} (o : Option X) (P : Type 0) → o ≡ None → IfNone o P → P
if_none None P is p = p
if_none (Some x) P is p = absurd cc

pub if_some : {X : Type 0} (o : Option X) (x : X) (P : X → Type 0) → o ≡ Some x → IfSome o P → P x
if_some o x P is p = subst (λ q. IfSome q P) is p

module _ {S : Type 0} {G : Ghosts S} (numbers : List ℕ) (most : ℕ) where
  -- before the first
  pub batch_first : (store : Store S G) (held : List Held) (room : ℕ) → held ≡ [] → room ≡ 0
      → IsBatching store store numbers most held room 0
  batch_first store held room none zero = record {
    reads = reads_none store;
    faults = refl;
    texts = subst (λ (l : List Held). Each AreTexts (held_pairs l)) (sym none) tt;
    sum = zero ∙ ap (λ (l : List Held). sum_by ample (held_pairs l)) (sym none);
    few = omega (arith, zero);
    pairs = λ told. ap held_pairs none;
  }

  -- one that has an artifact
  pub batch_push : (first mid new : Store S G) (held more : List Held) (one : Held)
      (room sum i : ℕ) → IsBatching first mid numbers most held room i
      → OnlyReadsStore mid new → (state_of new).faults ≡ (state_of mid).faults
      → more ≡ held ++ one ∷ [] → AreTexts (held_pair one)
      → one.room ≡ capped (ample (held_pair one)) → sum ≡ min (room + one.room) (2 ^ 64 - 1)
      → sum ≤ most → most < 2 ^ 63 → i < length numbers
      → (G.tells → held_pair one ≡ pair_of (state_of mid).pairs (get_or numbers i 0))
      → IsBatching first new numbers most more sum (i + 1)
  batch_push first mid new held more one room sum i x reads faults is text weight total le small lt told = record {
    reads = reads_both first mid new x.reads reads;
    faults = faults ∙ x.faults;
    texts = subst (λ (l : List Pair). Each AreTexts l) (sym now) (each_push (held_pairs held) (held_pair one) x.texts text);
    sum = omega (arith, total, weight, le, small, x.sum, ap (sum_by ample) now, sum_by-append ample (held_pairs held) (held_pair one ∷ []));
    few = le;
    pairs = λ tells.
        let pairs = (state_of first).pairs in
        let d : Pair = ([], []) in
        let one_is : held_pair one ≡ get_or (pairs_at pairs numbers) i d =
        told tells ∙ ap (λ (l : List Pair). pair_of l (get_or numbers i 0)) (pairs_read first mid x.reads)
        ∙ sym (pair_there pairs numbers i d lt) in
        now ∙ (λ j. x.pairs tells j ++ one_is j ∷ [])
        ∙ sym (take_more (pairs_at pairs numbers) i d (omega (arith, lt, length-map numbers (pair_of pairs))));
  }
    where
      now : held_pairs more ≡ held_pairs held ++ held_pair one ∷ []
      now = ap held_pairs is ∙ map-append held_pair held (one ∷ [])

  -- one that has none, which no useful pair is
  pub batch_skip : (first mid new : Store S G) (held : List Held) (room i : ℕ)
      → IsBatching first mid numbers most held room i
      → OnlyReadsStore mid new → (state_of new).faults ≡ (state_of mid).faults
      → i < length numbers
      → (G.tells → AreUseful (pairs_at (state_of first).pairs numbers))
      → (G.tells → artifact_in (pair_of (state_of mid).pairs (get_or numbers i 0)).1 ≡ None)
      → IsBatching first new numbers most held room (i + 1)
  batch_skip first mid new held room i x reads faults lt useful none = record {
    reads = reads_both first mid new x.reads reads;
    faults = faults ∙ x.faults;
    texts = x.texts;
    sum = x.sum;
    few = x.few;
    pairs = λ tells.
        let pairs = (state_of first).pairs in
        absurd (useful_there pairs numbers i (useful tells) lt
        (subst (λ (l : List Pair). artifact_in (pair_of l (get_or numbers i 0)).1 ≡ None) (pairs_read first mid x.reads) (none tells)));
  }
