-- A look-up, place by place.
use Rattle.std.proofs.Common.{◌≡◌, ℕ, ◌+◌, ◌<◌, ◌≤◌, Bool, true, false, cond, List, [], ◌∷◌, length, map, get_or, Option, Some, None, refl, sym, ◌∙◌, ap, subst, arith}
use Rattle.std.specs.Prelude.{◌||◌}
use Rattle.std.proofs.lemmas.Bool.{lt-ltb}
use Rattle.std.proofs.lemmas.List.{length-map, get_or-map}
use Rattle.globs.specs.declared.out_set.OutSet.{OutSet}
use Rattle.cache_api.specs.Artifacts.{Artifact}
use Rattle.cache_api.specs.Found.{given, found}
use Rattle.cache_api.specs.Pairs.{Pair}
use Rattle.cache_api.specs.Reading.{artifact_in}
use Rattle.record_log.specs.Kinds.{Entry}
use Rattle.pair_frames.specs.Pairs.{pairs_in}
use Rattle.pair_frames.specs.Reading.{record_places, length-record_places}
use Rattle.pair_reader.specs.declared.wanted.Lengths.{Lengths}
use Rattle.pair_reader.specs.Answers.{is_among}
use Rattle.pair_reader.specs.Frames as frame
use Rattle.pair_index.specs.declared.keys.Keys.{Keys}
use Rattle.pair_index.specs.Keys.{is_hashed, picked, IsKeysOf, is_sought_by_print, place_count, number_at, may_have, IsBehind}
use Rattle.pair_index.specs.declared.seen.SeenPairs.{SeenPairs}
use Rattle.pair_index.specs.Seen.{is_seen, numbered, seen_pairs}
use Rattle.pair_index.specs.Costs.{reads_pair, sum_where, costs_in, cost_at, sum_of, sum_seen, cost_of, cost_seen, reads_of, reads_seen}
use Rattle.artifact_store.proofs.Search.{unread_gives, sought, masked, length-masked, masked_here, none_by, found_seen, last_sought, sum_sought, sum_numbered, number_of, places_are, may_read, IsSought, IsPassed, sought_none, passed, looked, most, found_here}

-- from that place on all were looked at
abbrev pub behind : Option ℕ → ℕ
behind None = 0
behind (Some at) = at + 1

-- the place may have the key
abbrev pub IsMarked : Bool → Keys → List ℕ → Option ℕ → Type 0
IsMarked by keys key None = Unit {0}
IsMarked by keys key (Some at) = (at < place_count by keys) × (may_have by keys key at ≡ true)

pub marked_of : (by : Bool) (keys : Keys) (key : List ℕ) (limit : ℕ) (r : Option ℕ)
    → IsBehind by keys key limit r → IsMarked by keys key r
marked_of by keys key limit None x = tt
marked_of by keys key limit (Some at) x = (x.inside, x.may)

even_by : {A : Type 0} (b : Bool) (x : A) (pair : Pair) (xs : List A) (pairs : List Pair)
    → length xs ≡ length pairs → length (cond b (x ∷ xs) xs) ≡ length (cond b (pair ∷ pairs) pairs)
even_by true x pair xs pairs even = omega (arith, even)
even_by false x pair xs pairs even = even

picked_even : {A : Type 0} (test : Pair → Bool) (xs : List A) (pairs : List Pair) → length xs ≡ length pairs
    → length (picked test xs pairs) ≡ length (picked test pairs pairs)
picked_even test [] [] even = refl
picked_even test [] (pair ∷ pairs) even = absurd (omega (arith, even))
picked_even test (x ∷ xs) [] even = absurd (omega (arith, even))
picked_even test (x ∷ xs) (pair ∷ pairs) even =
    even_by (test pair) x pair (picked test xs pairs) (picked test pairs pairs)
    (picked_even test xs pairs (omega (arith, even)))

sought_even : {A : Type 0} (by : Bool) (lengths : Lengths) (xs : List A) (pairs : List Pair)
    → length xs ≡ length pairs → length (sought by lengths xs pairs) ≡ length (sought by lengths pairs pairs)
sought_even true lengths xs pairs even = picked_even (is_hashed lengths) xs pairs even
sought_even false lengths xs pairs even = even

-- what the pairs give that are seen, and what these cost
abbrev pub gives_in : SeenPairs → List ℕ → OutSet → List Entry → List (Option Artifact)
gives_in seen key outs fs =
    masked (is_seen seen) None 0 (map (given artifact_in key outs) (pairs_in fs))

abbrev pub costs_seen : SeenPairs → (List Entry → ℕ → ℕ) → List Entry → List ℕ
costs_seen seen cost fs = masked (is_seen seen) 0 0 (costs_in cost fs)

-- what is known at a place, by both sums
pub record IsLooked (keys : Keys) (fs : List Entry) (by : Bool) (key : List ℕ) (outs : OutSet)
    (seen : SeenPairs) (start now : ℕ) (last : Option ℕ) : Type 0 where
  pub costs : IsSought by key (sought by keys.lengths (pairs_in fs) (pairs_in fs))
      (sought by keys.lengths (gives_in seen key outs fs) (pairs_in fs))
      (sought by keys.lengths (costs_seen seen frame.cost_of fs) (pairs_in fs)) start now (behind last)
  pub reads : IsSought by key (sought by keys.lengths (pairs_in fs) (pairs_in fs))
      (sought by keys.lengths (gives_in seen key outs fs) (pairs_in fs))
      (sought by keys.lengths (costs_seen seen frame.reads_of fs) (pairs_in fs)) start now (behind last)

pub behind_le : (by : Bool) (keys : Keys) (key : List ℕ) (limit : ℕ) (r : Option ℕ)
    → IsBehind by keys key limit r → behind r ≤ limit
behind_le by keys key limit None below = omega arith
behind_le by keys key limit (Some at) last = omega (arith, last.below)

abbrev none : Pair
none = ([], [])

-- so much for a pair, and nothing where it is not seen
abbrev pub cost_if : SeenPairs → (List Entry → ℕ → ℕ) → List Entry → ℕ → ℕ
cost_if seen cost fs number = cond (is_seen seen number) (cost_at cost fs number) 0

abbrev pub given_if : SeenPairs → List ℕ → OutSet → List Entry → ℕ → Option Artifact
given_if seen key outs fs number =
    cond (is_seen seen number) (given artifact_in key outs (get_or (pairs_in fs) number none)) None

module _ (keys : Keys) (fs : List Entry) (x : IsKeysOf keys (pairs_in fs)) (by : Bool) (key : List ℕ)
    (outs : OutSet) (seen : SeenPairs) (start : ℕ) where
  abbrev all : List Pair
  all = sought by keys.lengths (pairs_in fs) (pairs_in fs)

  abbrev gives : List (Option Artifact)
  gives = sought by keys.lengths (gives_in seen key outs fs) (pairs_in fs)

  abbrev beside : (List Entry → ℕ → ℕ) → List ℕ
  beside cost = sought by keys.lengths (costs_seen seen cost fs) (pairs_in fs)

  -- all places behind one were looked at, by what the frames cost
  abbrev IsLookedBy : (List Entry → ℕ → ℕ) → ℕ → ℕ → Type 0
  IsLookedBy cost now limit = IsSought by key all gives (beside cost) start now limit

  costs_even : (cost : List Entry → ℕ → ℕ) → length (costs_in cost fs) ≡ length (pairs_in fs)
  costs_even cost = length-map (record_places 0 fs) (cost fs) ∙ length-record_places fs

  seen_even : (cost : List Entry → ℕ → ℕ) → length (costs_seen seen cost fs) ≡ length (pairs_in fs)
  seen_even cost = length-masked (is_seen seen) 0 0 (costs_in cost fs) ∙ costs_even cost

  gives_even : length (gives_in seen key outs fs) ≡ length (pairs_in fs)
  gives_even =
      length-masked (is_seen seen) None 0 (map (given artifact_in key outs) (pairs_in fs))
      ∙ length-map (pairs_in fs) (given artifact_in key outs)

  even : (cost : List Entry → ℕ → ℕ) → length (beside cost) ≡ length all
  even cost = sought_even by keys.lengths (costs_seen seen cost fs) (pairs_in fs) (seen_even cost)

  even_gives : length gives ≡ length all
  even_gives = sought_even by keys.lengths (gives_in seen key outs fs) (pairs_in fs) gives_even

  many : place_count by keys ≡ length all
  many = places_are by keys (pairs_in fs) x

  -- what the pair at a place gives
  gives_at : (i : ℕ) → i < place_count by keys
      → get_or gives i None ≡ given_if seen key outs fs (number_at by keys i)
  gives_at i inside =
      let here = number_of by keys (pairs_in fs) (gives_in seen key outs fs) i None x gives_even inside in
      let n = number_at by keys i in
      let f = given artifact_in key outs in
      let lt : n < length (map f (pairs_in fs)) = omega (arith, here.inside, length-map (pairs_in fs) f) in
      here.same ∙ masked_here (is_seen seen) None (map f (pairs_in fs)) n lt
      ∙ ap (λ (g : Option Artifact). cond (is_seen seen n) g None) (get_or-map f (pairs_in fs) n none None here.inside)

  pair_at : (i : ℕ) → i < place_count by keys → get_or all i none ≡ get_or (pairs_in fs) (number_at by keys i) none
  pair_at i inside = (number_of by keys (pairs_in fs) (pairs_in fs) i none x refl inside).same

  past : (i : ℕ) → i < length all → may_have by keys key i ≡ false → IsPassed by key all gives none i
  past i inside other =
      let place : i < place_count by keys = omega (arith, inside, many) in
      let n = number_at by keys i in
      let unread : reads_pair by key (get_or all i none) ≡ false =
      sym (may_read by keys key (pairs_in fs) i none x inside) ∙ other in
      let read_no : reads_pair by key (get_or (pairs_in fs) n none) ≡ false =
      ap (reads_pair by key) (sym (pair_at i place)) ∙ unread in
      record {
        unread = unread;
        nothing = gives_at i place
            ∙ none_by (is_seen seen n) (given artifact_in key outs (get_or (pairs_in fs) n none))
            (unread_gives artifact_in by key outs (get_or (pairs_in fs) n none) read_no);
      }

  pasts : (limit : ℕ) (r : Option ℕ) → IsBehind by keys key limit r → limit ≤ length all
      → (i : ℕ) → behind r ≤ i → i < limit → IsPassed by key all gives none i
  pasts limit None below few i from to = past i (omega (arith, to, few)) (below i to)
  pasts limit (Some at) last few i from to =
      past i (omega (arith, to, few)) (last.later i (omega (arith, from)) to)

  pub begun : (cost : List Entry → ℕ → ℕ) (r : Option ℕ) → IsBehind by keys key (place_count by keys) r
      → IsLookedBy cost start (behind r)
  begun cost r back =
      let back_all = subst (λ (n : ℕ). IsBehind by keys key n r) many back in
      passed by key all gives (beside cost) (even cost) even_gives start start (behind r) (length all) none
      (behind_le by keys key (length all) r back_all) (omega arith) (pasts (length all) r back_all (omega arith))
      (sought_none by key all gives (beside cost) (even cost) even_gives start (length all) (omega arith))

  module _ (at : ℕ) (inside : at < place_count by keys) (may : may_have by keys key at ≡ true) where
    lt : at < length all
    lt = omega (arith, inside, many)

    reads_it : reads_pair by key (get_or all at none) ≡ true
    reads_it = sym (may_read by keys key (pairs_in fs) at none x lt) ∙ may

    pub is_pair : number_at by keys at < length (pairs_in fs)
    is_pair = (number_of by keys (pairs_in fs) (pairs_in fs) at none x refl inside).inside

    cost_is : (cost : List Entry → ℕ → ℕ) → get_or (beside cost) at 0 ≡ cost_if seen cost fs (number_at by keys at)
    cost_is cost =
        let n : number_at by keys at < length (costs_in cost fs) = omega (arith, is_pair, costs_even cost) in
        (number_of by keys (pairs_in fs) (costs_seen seen cost fs) at 0 x (seen_even cost) inside).same
        ∙ masked_here (is_seen seen) 0 (costs_in cost fs) (number_at by keys at) n

    pub gone_on : (cost : List Entry → ℕ → ℕ) (now next : ℕ) (r : Option ℕ)
        → given_if seen key outs fs (number_at by keys at) ≡ None
        → next ≤ now + cost_if seen cost fs (number_at by keys at) → IsBehind by keys key at r
        → IsLookedBy cost now (at + 1) → IsLookedBy cost next (behind r)
    gone_on cost now next r nothing le back so_far =
        passed by key all gives (beside cost) (even cost) even_gives start next (behind r) at none
        (behind_le by keys key at r back) (omega (arith, lt)) (pasts at r back (omega (arith, lt)))
        (looked by key all gives (beside cost) (even cost) even_gives start now next at none lt reads_it
        (gives_at at inside ∙ nothing) (omega (arith, le, cost_is cost)) so_far)

    bound : (cost : List Entry → ℕ → ℕ) (now : ℕ) → by ≡ is_sought_by_print keys.lengths key
        → IsLookedBy cost now (at + 1)
        → now + cost_if seen cost fs (number_at by keys at) ≤ start + sum_seen cost seen keys.lengths fs key
    bound cost now is so_far =
        let sum = sum_sought by keys.lengths (reads_pair by key) (costs_seen seen cost fs) (pairs_in fs) in
        let most_here = most by key all gives (beside cost) (even cost) even_gives start now at none lt reads_it so_far in
        let same = sum_numbered (is_seen seen) (reads_pair by key) 0 (costs_in cost fs) (pairs_in fs) in
        let words = ap (λ (b : Bool). sum_where (reads_pair b key) (seen_pairs seen (costs_in cost fs)) (seen_pairs seen (pairs_in fs))) is in
        omega (arith, sum, most_here, same, words, cost_is cost)

    pub cost_bound : (now : ℕ) → by ≡ is_sought_by_print keys.lengths key
        → IsLookedBy frame.cost_of now (at + 1)
        → now + cost_if seen frame.cost_of fs (number_at by keys at) ≤ start + cost_seen seen keys.lengths fs key
    unfolding cost_seen
    cost_bound now is so_far = bound frame.cost_of now is so_far

    pub reads_bound : (now : ℕ) → by ≡ is_sought_by_print keys.lengths key
        → IsLookedBy frame.reads_of now (at + 1)
        → now + cost_if seen frame.reads_of fs (number_at by keys at) ≤ start + reads_seen seen keys.lengths fs key
    unfolding reads_seen
    reads_bound now is so_far = bound frame.reads_of now is so_far

    pub found_at : (cost : List Entry → ℕ → ℕ) (now : ℕ) (a : Artifact)
        → by ≡ is_sought_by_print keys.lengths key → IsLookedBy cost now (at + 1)
        → given_if seen key outs fs (number_at by keys at) ≡ Some a
        → found artifact_in key outs (seen_pairs seen (pairs_in fs)) ≡ Some a
    found_at cost now a is so_far some =
        found_seen (is_seen seen) artifact_in key outs 0 (pairs_in fs)
        ∙ sym (last_sought by keys.lengths (is_seen seen) artifact_in key outs is (pairs_in fs))
        ∙ found_here by key all gives (beside cost) (even cost) even_gives start at a lt so_far.none
        (gives_at at inside ∙ some)

    -- by what was answered for these frames and that number
    module _ (gs : List Entry) (n : ℕ) (same : gs ≡ fs) (num : n ≡ number_at by keys at)
        (is : by ≡ is_sought_by_print keys.lengths key) (now : ℕ)
        (so_far : IsLooked keys fs by key outs seen start now (Some at)) where
      pub inside_at : n < length (pairs_in gs)
      inside_at = omega (arith, is_pair, num, ap (λ (l : List Entry). length (pairs_in l)) same)

      pub few_at : (next : ℕ) → next ≤ now + cost_if seen frame.reads_of gs n
          → next ≤ start + reads_seen seen keys.lengths fs key
      few_at next le =
          let cost : cost_if seen frame.reads_of gs n ≡ cost_if seen frame.reads_of fs (number_at by keys at) =
          λ i. cost_if seen frame.reads_of (same i) (num i) in
          omega (arith, le, reads_bound now is so_far.reads, cost)

      pub most_at : (next : ℕ) → next ≤ now + cost_if seen frame.cost_of gs n
          → next ≤ start + cost_seen seen keys.lengths fs key
      most_at next le =
          let cost : cost_if seen frame.cost_of gs n ≡ cost_if seen frame.cost_of fs (number_at by keys at) =
          λ i. cost_if seen frame.cost_of (same i) (num i) in
          omega (arith, le, cost_bound now is so_far.costs, cost)

      given_same : given_if seen key outs gs n ≡ given_if seen key outs fs (number_at by keys at)
      given_same = λ i. given_if seen key outs (same i) (num i)

      pub answer_at : (a : Artifact) → Some a ≡ given_if seen key outs gs n
          → Some a ≡ found artifact_in key outs (seen_pairs seen (pairs_in fs))
      answer_at a some = sym (found_at frame.cost_of now a is so_far.costs (sym (some ∙ given_same)))

      pub next_at : (next : ℕ) (r : Option ℕ) → None ≡ given_if seen key outs gs n
          → next ≤ now + cost_if seen frame.cost_of gs n → next ≤ now + cost_if seen frame.reads_of gs n
          → IsBehind by keys key at r → IsLooked keys fs by key outs seen start next r
      next_at next r gives_none cost reads back =
          let nothing = sym (gives_none ∙ given_same) in
          let cost_same : cost_if seen frame.cost_of gs n ≡ cost_if seen frame.cost_of fs (number_at by keys at) =
          λ i. cost_if seen frame.cost_of (same i) (num i) in
          let reads_same : cost_if seen frame.reads_of gs n ≡ cost_if seen frame.reads_of fs (number_at by keys at) =
          λ i. cost_if seen frame.reads_of (same i) (num i) in
          record {
            costs = gone_on frame.cost_of now next r nothing (omega (arith, cost, cost_same)) back so_far.costs;
            reads = gone_on frame.reads_of now next r nothing (omega (arith, reads, reads_same)) back so_far.reads;
          }

  pub found_none : (cost : List Entry → ℕ → ℕ) (now : ℕ) → by ≡ is_sought_by_print keys.lengths key
      → IsLookedBy cost now 0 → found artifact_in key outs (seen_pairs seen (pairs_in fs)) ≡ None
  found_none cost now is so_far =
      found_seen (is_seen seen) artifact_in key outs 0 (pairs_in fs)
      ∙ sym (last_sought by keys.lengths (is_seen seen) artifact_in key outs is (pairs_in fs)) ∙ so_far.none

  end : (cost : List Entry → ℕ → ℕ) (now : ℕ) → by ≡ is_sought_by_print keys.lengths key
      → IsLookedBy cost now 0 → now ≤ start + sum_seen cost seen keys.lengths fs key
  end cost now is so_far =
      let sum = sum_sought by keys.lengths (reads_pair by key) (costs_seen seen cost fs) (pairs_in fs) in
      let same = sum_numbered (is_seen seen) (reads_pair by key) 0 (costs_in cost fs) (pairs_in fs) in
      let words = ap (λ (b : Bool). sum_where (reads_pair b key) (seen_pairs seen (costs_in cost fs)) (seen_pairs seen (pairs_in fs))) is in
      omega (arith, sum, so_far.few, same, words)

  pub cost_end : (now : ℕ) → by ≡ is_sought_by_print keys.lengths key → IsLookedBy frame.cost_of now 0
      → now ≤ start + cost_seen seen keys.lengths fs key
  unfolding cost_seen
  cost_end now is so_far = end frame.cost_of now is so_far

  pub reads_end : (now : ℕ) → by ≡ is_sought_by_print keys.lengths key → IsLookedBy frame.reads_of now 0
      → now ≤ start + reads_seen seen keys.lengths fs key
  unfolding reads_seen
  reads_end now is so_far = end frame.reads_of now is so_far

-- ---- all pairs seen

numbered_by : {A : Type 0} (b : Bool) (x : A) (some all : List A) → b ≡ true → some ≡ all
    → cond b (x ∷ some) some ≡ x ∷ all
numbered_by true x some all is same = ap (λ (l : List _). x ∷ l) same
numbered_by false x some all is same = absurd cc

numbered_all : {A : Type 0} (test : ℕ → Bool) (n : ℕ) (xs : List A)
    → ((k : ℕ) → k < n + length xs → test k ≡ true) → numbered test n xs ≡ xs
numbered_all test n [] sees = refl
numbered_all test n (x ∷ xs) sees =
    numbered_by (test n) x (numbered test (n + 1) xs) xs (sees n (omega arith))
    (numbered_all test (n + 1) xs (λ k lt. sees k (omega (arith, lt))))

seen_below : (seen : SeenPairs) (k : ℕ) → k < seen.first → is_seen seen k ≡ true
seen_below seen k lt = ap (λ (b : Bool). b || is_among seen.own k) (lt-ltb k seen.first lt)

-- where the first so many are seen, which are all
pub seen_all : {A : Type 0} (seen : SeenPairs) (xs : List A) → length xs ≤ seen.first → seen_pairs seen xs ≡ xs
seen_all seen xs le =
    numbered_all (is_seen seen) 0 xs (λ k lt. seen_below seen k (omega (arith, lt, le)))

module _ (seen : SeenPairs) (lengths : Lengths) (fs : List Entry) (key : List ℕ)
    (le : length (pairs_in fs) ≤ seen.first) where
  sum_all : (cost : List Entry → ℕ → ℕ) → sum_seen cost seen lengths fs key ≡ sum_of cost lengths fs key
  sum_all cost =
      let many : length (costs_in cost fs) ≡ length (pairs_in fs) =
      length-map (record_places 0 fs) (cost fs) ∙ length-record_places fs in
      λ i. sum_where (reads_pair (is_sought_by_print lengths key) key)
      (seen_all seen (costs_in cost fs) (omega (arith, many, le)) i) (seen_all seen (pairs_in fs) le i)

  pub cost_all : cost_seen seen lengths fs key ≡ cost_of lengths fs key
  unfolding cost_seen cost_of
  cost_all = sum_all frame.cost_of

  pub reads_all : reads_seen seen lengths fs key ≡ reads_of lengths fs key
  unfolding reads_seen reads_of
  reads_all = sum_all frame.reads_of
