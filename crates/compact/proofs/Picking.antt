-- Pairs that are picked one after another.
use Rattle.std.proofs.Common.{◌≡◌, ◌≤◌, ◌<◌, inl, inr, ℕ, ◌+◌, true, false, List, [], ◌∷◌, ◌++◌, length, drop, get_or, Option, Some, None, refl, sym, ◌∙◌, ap, subst, arith, length-append}
use Rattle.std.specs.Prelude.{All, reverse}
use Rattle.std.proofs.Math.Seq.{get_or-append_seam}
use Rattle.std.proofs.lemmas.Bool.{cases_lt, leb-true, leb-false}
use Rattle.std.proofs.lemmas.List.{length-map, length-reverse, drop_all, reverse-append, get_or_append_left}
use Rattle.std.proofs.lemmas.List.Elements.{All-append, All-cons, All-nil, All-head, All-tail}
use Rattle.store_dev.specs.declared.device.StoreDevice.{Ghosts}
use Rattle.cache_api.specs.Pairs.{Pair}
use Rattle.artifact_store.specs.declared.store.Store.{Store}
use Rattle.artifact_store.specs.Store.{state_of, count_in, OnlyReadsStore}
use Rattle.artifact_store.proofs.Carry.{reads_both}
use Rattle.compact.specs.declared.picks.Picks.{Picks}
use Rattle.compact.specs.Chosen.{chosen}
use Rattle.compact.specs.Picks.{ArePicks, pair_of, pairs_at, picked, picked_with, is_enough}
use Rattle.compact.specs.Picks.{key_at, IsDigestOf}
use Rattle.compact.proofs.Keys.{digest_grown}
use Rattle.compact.proofs.Choosing.{worthy, worthy_from, chosen_some, chosen_all, IsAtMost, map-reverse}
use Rattle.compact.proofs.Seeking.{IsPicking, reads_none, pairs_read, count_read}

length-picked : (pairs : List Pair) (numbers : List ℕ)
    → length (picked pairs numbers) ≡ length numbers
length-picked pairs numbers =
    length-reverse (pairs_at pairs numbers) ∙ length-map numbers (pair_of pairs)

at_most_next : (keep : Option ℕ) (n m : ℕ) → IsAtMost keep n → is_enough keep n ≡ false
    → m ≤ n + 1 → IsAtMost keep m
at_most_next None n m most more le = tt
at_most_next (Some k) n m most more le = omega (arith, leb-false k n more, le)

enough_by : (keep : Option ℕ) (pairs : List Pair) (left n : ℕ)
    → n ≡ length (worthy (drop left pairs)) → IsAtMost keep n → is_enough keep n ≡ true
    → chosen pairs keep ≡ worthy (drop left pairs)
enough_by None pairs left n is most enough = absurd cc
enough_by (Some k) pairs left n is most enough =
    chosen_some pairs k left (omega (arith, is, most, leb-true k n enough))

all_reverse : (P : ℕ → Type 0) (xs : List ℕ) → All P xs → All P (reverse xs)
all_reverse P [] all = All-nil P
all_reverse P (x ∷ xs) all =
    subst (λ l. All P l) (sym (reverse-append (x ∷ []) xs))
    (All-append P (reverse xs) (x ∷ []) (all_reverse P xs (All-tail P x xs all))
    (All-cons P x [] (All-head P x xs all) (All-nil P)))

-- one number more with a digest of its key
digests_pushed : (pairs : List Pair) (numbers : List ℕ) (digests : List (List ℕ)) (n : ℕ)
    (digest : List ℕ) → length digests ≡ length numbers
    → ((place : ℕ) → place < length numbers → IsDigestOf digests (key_at pairs numbers place) (get_or digests place []))
    → IsDigestOf digests (pair_of pairs n).0 digest
    → (place : ℕ) → place < length (numbers ++ n ∷ [])
    → IsDigestOf (digests ++ digest ∷ []) (key_at pairs (numbers ++ n ∷ []) place)
    (get_or (digests ++ digest ∷ []) place [])
digests_pushed pairs numbers digests n digest even are new place inside = elim (cases_lt place (length numbers)) [
  | inl lt ↦
      let number : get_or (numbers ++ n ∷ []) place 0 ≡ get_or numbers place 0 = get_or_append_left numbers (n ∷ []) 0 place lt in
      let there : get_or (digests ++ digest ∷ []) place [] ≡ get_or digests place [] = get_or_append_left digests (digest ∷ []) [] place (omega (arith, lt, even)) in
      subst (λ (m : ℕ). IsDigestOf (digests ++ digest ∷ []) (pair_of pairs m).0 (get_or (digests ++ digest ∷ []) place [])) (sym number)
      (subst (λ (d : List ℕ). IsDigestOf (digests ++ digest ∷ []) (key_at pairs numbers place) d) (sym there)
      (digest_grown digests (digest ∷ []) (key_at pairs numbers place) (get_or digests place []) (are place lt)))
  | inr le ↦
      let at : place ≡ length numbers = omega (arith, le, inside, length-append numbers (n ∷ [])) in
      let number : get_or (numbers ++ n ∷ []) place 0 ≡ n = ap (λ (i : ℕ). get_or (numbers ++ n ∷ []) i 0) at ∙ get_or-append_seam numbers n [] 0 in
      let there : get_or (digests ++ digest ∷ []) place [] ≡ digest = ap (λ (i : ℕ). get_or (digests ++ digest ∷ []) i []) (at ∙ sym even) ∙ get_or-append_seam digests digest [] [] in
      subst (λ (m : ℕ). IsDigestOf (digests ++ digest ∷ []) (pair_of pairs m).0 (get_or (digests ++ digest ∷ []) place [])) (sym number)
      (subst (λ (d : List ℕ). IsDigestOf (digests ++ digest ∷ []) (pair_of pairs n).0 d) (sym there)
      (digest_grown digests (digest ∷ []) (pair_of pairs n).0 digest new))
]

module _ {S : Type 0} {G : Ghosts S} where
  -- one more
  pub picks_pushed : (store : Store S G) (old new : Picks) (n : ℕ) (digest : List ℕ)
      → ArePicks store old
      → new.numbers.items ≡ old.numbers.items ++ n ∷ []
      → new.prints.digests ≡ old.prints.digests ++ digest ∷ [] → n < count_in store
      → (G.tells → IsDigestOf old.prints.digests (pair_of (state_of store).pairs n).0 digest)
      → ArePicks store new
  picks_pushed store old new n digest x numbers prints lt told = record {
    even = omega (arith, x.even, ap length numbers, ap length prints, length-append old.numbers.items (n ∷ []), length-append old.prints.digests (digest ∷ []));
    below = subst (λ l. All (λ m. m < count_in store) l) (sym numbers)
        (All-append (λ m. m < count_in store) old.numbers.items (n ∷ []) x.below
        (All-cons (λ m. m < count_in store) n [] lt (All-nil (λ m. m < count_in store))));
    prints = λ tells place inside.
        let pairs = (state_of store).pairs in
        let inside' : place < length (old.numbers.items ++ n ∷ []) = subst (λ (l : List ℕ). place < length l) numbers inside in
        subst (λ (l : List ℕ). IsDigestOf new.prints.digests (key_at pairs l place) (get_or new.prints.digests place [])) (sym numbers)
        (subst (λ (l : List (List ℕ)). IsDigestOf l (key_at pairs (old.numbers.items ++ n ∷ []) place) (get_or l place [])) (sym prints)
        (digests_pushed pairs old.numbers.items old.prints.digests n digest x.even (x.prints tells) (told tells) place inside'));
  }

  -- of a store that was read since
  pub picks_read : (a b : Store S G) (picks : Picks) → OnlyReadsStore a b → ArePicks b picks
      → ArePicks a picks
  picks_read a b picks reads x = record {
    even = x.even;
    below = subst (λ (n : ℕ). All (λ m. m < n) picks.numbers.items) (count_read a b reads) x.below;
    prints = λ tells place inside.
        subst (λ (l : List Pair). IsDigestOf picks.prints.digests (key_at l picks.numbers.items place) (get_or picks.prints.digests place []))
        (pairs_read a b reads) (x.prints tells place inside);
  }

  pub picks_still : (a b : Store S G) (picks : Picks) → OnlyReadsStore a b → ArePicks a picks
      → ArePicks b picks
  picks_still a b picks reads x = record {
    even = x.even;
    below = subst (λ (n : ℕ). All (λ m. m < n) picks.numbers.items) (sym (count_read a b reads)) x.below;
    prints = λ tells place inside.
        subst (λ (l : List Pair). IsDigestOf picks.prints.digests (key_at l picks.numbers.items place) (get_or picks.prints.digests place []))
        (sym (pairs_read a b reads)) (x.prints tells place inside);
  }

  -- before the first
  pub picking_first : (store : Store S G) (keep : Option ℕ) (left : ℕ) (picks : Picks)
      → picks.numbers.items ≡ [] → picks.prints.digests ≡ [] → left ≡ count_in store
      → (G.tells → left ≡ length (state_of store).pairs) → IsPicking store store keep left picks
  picking_first store keep left picks numbers prints is told = record {
    reads = reads_none store;
    faults = refl;
    few = omega (arith, is);
    all = λ tells. sym is ∙ told tells;
    are = record {
      even = ap length prints ∙ sym (ap length numbers);
      below = subst (λ l. All (λ m. m < count_in store) l) (sym numbers) (All-nil (λ m. m < count_in store));
      prints = λ tells place inside.
          let none : place < 0 = subst (λ (l : List ℕ). place < length l) numbers inside in
          absurd (omega (arith, none));
    };
    most = subst (λ l. IsAtMost keep (length l)) (sym numbers) (none keep);
    picked = λ tells.
        let pairs = (state_of store).pairs in
        ap (picked pairs) numbers
        ∙ ap worthy (sym (drop_all left pairs (omega (arith, told tells))));
  }
    where
      none : (k : Option ℕ) → IsAtMost k 0
      none None = tt
      none (Some most) = omega arith

  -- one was looked at
  pub picking_next : (first mid new : Store S G) (keep : Option ℕ) (left less : ℕ)
      (old now : Picks) → IsPicking first mid keep left old → left ≡ less + 1
      → is_enough keep (length old.numbers.items) ≡ false → OnlyReadsStore mid new
      → (state_of new).faults ≡ (state_of mid).faults → ArePicks mid now
      → length now.numbers.items ≤ length old.numbers.items + 1
      → (G.tells → picked (state_of mid).pairs now.numbers.items
      ≡ picked_with (pair_of (state_of mid).pairs less)
      (picked (state_of mid).pairs old.numbers.items))
      → IsPicking first new keep less now
  picking_next first mid new keep left less old now x is more reads faults are few told = record {
    reads = reads_both first mid new x.reads reads;
    faults = faults ∙ x.faults;
    few = omega (arith, is, x.few);
    all = x.all;
    are = picks_read first mid now x.reads are;
    most = at_most_next keep (length old.numbers.items) (length now.numbers.items) x.most more few;
    picked = λ tells.
        let pairs = (state_of first).pairs in
        let same = pairs_read first mid x.reads in
        let step : picked pairs now.numbers.items ≡ picked_with (pair_of pairs less) (picked pairs old.numbers.items) =
        subst (λ (l : List Pair). picked l now.numbers.items ≡ picked_with (pair_of l less) (picked l old.numbers.items)) same (told tells) in
        let was : picked pairs old.numbers.items ≡ worthy (drop (less + 1) pairs) = x.picked tells ∙ ap (λ (n : ℕ). worthy (drop n pairs)) is in
        step ∙ ap (picked_with (pair_of pairs less)) was
        ∙ worthy_from pairs less ([], []) (omega (arith, is, x.few, x.all tells));
  }

  -- they are enough
  pub picking_enough : (first now : Store S G) (keep : Option ℕ) (left : ℕ) (picks : Picks)
      → IsPicking first now keep left picks
      → is_enough keep (length picks.numbers.items) ≡ true → G.tells
      → picked (state_of first).pairs picks.numbers.items ≡ chosen (state_of first).pairs keep
  picking_enough first now keep left picks x enough tells =
      let pairs = (state_of first).pairs in
      let n = length picks.numbers.items in
      let is : n ≡ length (worthy (drop left pairs)) = sym (length-picked pairs picks.numbers.items) ∙ ap length (x.picked tells) in
      x.picked tells ∙ sym (enough_by keep pairs left n is x.most enough)

  -- all were looked at
  pub picking_all : (first now : Store S G) (keep : Option ℕ) (left : ℕ) (picks : Picks)
      → IsPicking first now keep left picks → left ≡ 0 → G.tells
      → picked (state_of first).pairs picks.numbers.items ≡ chosen (state_of first).pairs keep
  picking_all first now keep left picks x none tells =
      let pairs = (state_of first).pairs in
      let all : picked pairs picks.numbers.items ≡ worthy pairs = x.picked tells ∙ ap (λ (n : ℕ). worthy (drop n pairs)) none in
      let n : length picks.numbers.items ≡ length (worthy pairs) = sym (length-picked pairs picks.numbers.items) ∙ ap length all in
      all ∙ sym (chosen_all pairs keep (subst (λ (k : ℕ). IsAtMost keep k) n x.most))

-- turned round they are in their order
pub picked_round : (pairs : List Pair) (numbers : List ℕ)
    → pairs_at pairs (reverse numbers) ≡ picked pairs numbers
picked_round pairs numbers = map-reverse (pair_of pairs) numbers

pub below_round : (n : ℕ) (numbers : List ℕ) → All (λ m. m < n) numbers
    → All (λ m. m < n) (reverse numbers)
below_round n numbers all = all_reverse (λ m. m < n) numbers all
