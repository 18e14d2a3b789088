-- What is seen of pairs behind which others stand.
use Rattle.std.proofs.Common.{◌≡◌, ℕ, suc, ◌+◌, ◌*◌, ◌<◌, ◌≤◌, Bool, true, false, cond, List, []}
use Rattle.std.proofs.Common.{◌∷◌, ◌++◌, length, map, get_or, refl, sym, ◌∙◌, ap, subst, arith}
use Rattle.std.proofs.Common.{length-append}
use Rattle.std.specs.Prelude.{◌||◌, nat_lt, nat_eq}
use Rattle.std.specs.List.{All}
use Rattle.std.proofs.lemmas.Bool.{le-ltb, ne_eqb}
use Rattle.std.proofs.lemmas.List.{append-nil, length-map, get_or_append_left}
use Rattle.std.proofs.lemmas.List.Elements.{All-weaker}
use Rattle.std.proofs.lemmas.List.Folds.{list_any_none}
use Rattle.cache_api.specs.Pairs.{Pair}
use Rattle.cache_api.specs.Reading.{artifact_in}
use Rattle.record_log.specs.Kinds.{Entry}
use Rattle.record_log.specs.Frames.{all_formed}
use Rattle.record_log.specs.Texts.{formed_front}
use Rattle.blob_pool.specs.Contents.{contents_of}
use Rattle.pair_frames.specs.Pairs.{pairs_in, pairs_from}
use Rattle.pair_frames.specs.Joins.{pairs_in-append}
use Rattle.pair_frames.specs.Reading.{record_places, record_places-append, length-record_places}
use Rattle.pair_frames.specs.Reading.{HoldsPair, pair_place, pair_read}
use Rattle.pair_reader.specs.Answers.{is_among}
use Rattle.pair_reader.specs.Frames as frame
use Rattle.pair_index.specs.declared.seen.SeenPairs.{SeenPairs}
use Rattle.pair_index.specs.Keys.{is_sought_by_print}
use Rattle.pair_index.specs.Costs.{reads_pair, sum_where, costs_in, cost_seen}
use Rattle.shared_runs.specs.Costs.{any_length, cost_among}
use Rattle.shared_runs.specs.Frames.{StartWith}
use Rattle.shared_runs.specs.Views.{SeesBelow}
use Rattle.pair_index.specs.Seen.{is_seen, numbered, seen_pairs}

-- ---- numbers that are seen

apart : (own : List ℕ) (n k : ℕ) → n ≤ k → All (λ j. j < n) own → All (λ j. nat_eq j k ≡ false) own
apart own n k le below =
    All-weaker (λ j. j < n) (λ j. nat_eq j k ≡ false)
    (λ j lt. ne_eqb j k (λ same. absurd (omega (arith, lt, le, same)))) own below

pub unseen : (seen : SeenPairs) (n k : ℕ) → SeesBelow seen n → n ≤ k → is_seen seen k ≡ false
unseen seen n k below le =
    let first : nat_lt k seen.first ≡ false = le-ltb k seen.first
    (omega (arith, below.first, le)) in
    let own : is_among seen.own k ≡ false =
    list_any_none (λ (other : ℕ). nat_eq other k) seen.own (apart seen.own n k le below.own) in
    λ i. first i || own i

module _ {A : Type 0} (test : ℕ → Bool) where
  one_by : (b : Bool) (x : A) (both xs ys : List A) → both ≡ xs ++ ys
      → cond b (x ∷ both) both ≡ cond b (x ∷ xs) xs ++ ys
  one_by true x both xs ys is = ap (λ (l : List A). x ∷ l) is
  one_by false x both xs ys is = is

  pub numbered_both : (n : ℕ) (xs ys : List A)
      → numbered test n (xs ++ ys) ≡ numbered test n xs ++ numbered test (n + length xs) ys
  numbered_both n [] ys = ap (λ (k : ℕ). numbered test k ys) (omega arith)
  numbered_both n (x ∷ xs) ys =
      let at : n + 1 + length xs ≡ n + suc (length xs) = omega arith in
      one_by (test n) x (numbered test (n + 1) (xs ++ ys)) (numbered test (n + 1) xs)
      (numbered test (n + suc (length xs)) ys)
      (numbered_both (n + 1) xs ys
      ∙ ap (λ (k : ℕ). numbered test (n + 1) xs ++ numbered test k ys) at)

  none_by : (b : Bool) (x : A) (xs : List A) → b ≡ false → xs ≡ [] → cond b (x ∷ xs) xs ≡ []
  none_by true x xs other is = absurd cc
  none_by false x xs other is = is

  pub numbered_none : (n : ℕ) (ys : List A) → ((k : ℕ) → n ≤ k → test k ≡ false)
      → numbered test n ys ≡ []
  numbered_none n [] none = refl
  numbered_none n (y ∷ ys) none =
      none_by (test n) y (numbered test (n + 1) ys) (none n (omega arith))
      (numbered_none (n + 1) ys (λ k le. none k (omega (arith, le))))

pub seen_front : {A : Type 0} (seen : SeenPairs) (xs ys : List A) → SeesBelow seen (length xs)
    → seen_pairs seen (xs ++ ys) ≡ seen_pairs seen xs
seen_front seen xs ys below =
    numbered_both (is_seen seen) 0 xs ys
    ∙ ap (λ l. numbered (is_seen seen) 0 xs ++ l)
    (numbered_none (is_seen seen) (0 + length xs) ys
    (λ k le. unseen seen (length xs) k below (omega (arith, le))))
    ∙ append-nil (numbered (is_seen seen) 0 xs)

-- ---- what they cost

map_same : {A : Type 0} (f g : ℕ → A) (xs : List ℕ)
    → ((i : ℕ) → i < length xs → f (get_or xs i 0) ≡ g (get_or xs i 0))
    → map f xs ≡ map g xs
map_same f g [] same = refl
map_same f g (x ∷ xs) same = λ i. same 0 (omega arith) i ∷ map_same f g xs
    (λ k lt. same (suc k) (omega (arith, lt))) i

map_both : {A : Type 0} (f : ℕ → A) (xs ys : List ℕ) → map f (xs ++ ys) ≡ map f xs ++ map f ys
map_both f [] ys = refl
map_both f (x ∷ xs) ys = ap (λ l. f x ∷ l) (map_both f xs ys)

module _ (fs more : List Entry) (formed : all_formed [] (fs ++ more) ≡ true) where
  abbrev none : Entry
  none = record { kind = 0; key = []; value = [] }

  abbrev places : List ℕ
  places = record_places 0 fs

  -- the frame of a pair costs what it did
  cost_one : (i : ℕ) → i < length places
      → frame.cost_of (fs ++ more) (get_or places i 0) ≡ frame.cost_of fs (get_or places i 0)
  cost_one i lt =
      let k = get_or places i 0 in
      let p : Pair = ([], []) in
      let inside : i < length (pairs_in fs) = omega (arith, lt, length-record_places fs) in
      let here = pair_place fs i none p inside in
      let frame_is : get_or (fs ++ more) k none
      ≡ get_or fs k none = get_or_append_left fs more none k here.inside in
      let at : get_or (record_places 0 (fs ++ more)) i 0 ≡ k =
      ap (λ (l : List ℕ). get_or l i 0) (record_places-append 0 fs more)
      ∙ get_or_append_left places (record_places (0 + length fs) more) 0 i lt in
      let pairs_are = pairs_in-append fs more in
      let long : i < length (pairs_in (fs ++ more)) =
      omega (
        arith,
        inside,
        ap length pairs_are,
        length-append (pairs_in fs)
            (pairs_from (contents_of fs) more),
      ) in
      let there : HoldsPair (fs ++ more) i k none p =
      subst (λ (n : ℕ). HoldsPair (fs ++ more) i n none p) at
      (pair_place (fs ++ more) i none p long) in
      let same_pair : get_or (pairs_in (fs ++ more)) i p ≡ get_or (pairs_in fs) i p =
      ap (λ (l : List Pair). get_or l i p) pairs_are
      ∙ get_or_append_left (pairs_in fs) (pairs_from (contents_of fs) more) p i inside in
      let pair_is : frame.pair_at (fs ++ more) k ≡ frame.pair_at fs k =
      sym (pair_read (fs ++ more) i k none p formed there) ∙ same_pair
      ∙ pair_read fs i k none p (formed_front [] fs more formed) here in
      λ j. 2 + 2 * frame.pieces_in (frame_is j) + frame.file_count (artifact_in (pair_is j).1)

  costs_are : costs_in frame.cost_of (fs ++ more)
      ≡ costs_in frame.cost_of fs ++ map (frame.cost_of (fs ++ more))
      (record_places (0 + length fs) more)
  costs_are =
      ap (map (frame.cost_of (fs ++ more))) (record_places-append 0 fs more)
      ∙ map_both (frame.cost_of (fs ++ more)) places (record_places (0 + length fs) more)
      ∙ ap (λ (l : List ℕ). l ++ map (frame.cost_of (fs ++ more))
      (record_places (0 + length fs) more))
      (map_same (frame.cost_of (fs ++ more)) (frame.cost_of fs) places cost_one)

  -- the reads of a look-up among what is seen, by fingerprints or by lengths
  abbrev cost_by : Bool → SeenPairs → List Entry → List ℕ → ℕ
  cost_by by seen es key =
      sum_where (reads_pair by key) (seen_pairs seen (costs_in frame.cost_of es))
      (seen_pairs seen (pairs_in es))

  cost_same : (seen : SeenPairs) (by : Bool) (key : List ℕ) → SeesBelow seen (length (pairs_in fs))
      → cost_by by seen (fs ++ more) key ≡ cost_by by seen fs key
  cost_same seen by key below =
      let even : length (costs_in frame.cost_of fs) ≡ length (pairs_in fs) =
      length-map places (frame.cost_of fs) ∙ length-record_places fs in
      let costs : seen_pairs seen (costs_in frame.cost_of (fs ++ more))
      ≡ seen_pairs seen (costs_in frame.cost_of fs) =
      ap (seen_pairs seen) costs_are
      ∙ seen_front seen (costs_in frame.cost_of fs)
      (map (frame.cost_of (fs ++ more)) (record_places (0 + length fs) more))
      (subst (SeesBelow seen) (sym even) below) in
      let pairs : seen_pairs seen (pairs_in (fs ++ more)) ≡ seen_pairs seen (pairs_in fs) =
      ap (seen_pairs seen) (pairs_in-append fs more)
      ∙ seen_front seen (pairs_in fs) (pairs_from (contents_of fs) more) below in
      λ i. sum_where (reads_pair by key) (costs i) (pairs i)

  -- what is seen costs what it did
  cost_front : (seen : SeenPairs) (key : List ℕ) → SeesBelow seen (length (pairs_in fs))
      → cost_among seen (fs ++ more) key ≡ cost_among seen fs key
  unfolding cost_seen
  cost_front seen key below = cost_same seen (is_sought_by_print any_length key) key below

pub cost_more : (fs all : List Entry) → StartWith fs all → all_formed [] all ≡ true
    → (seen : SeenPairs) (key : List ℕ) → SeesBelow seen (length (pairs_in fs))
    → cost_among seen all key ≡ cost_among seen fs key
cost_more fs all (more, is) formed seen key below =
    ap (λ (l : List Entry). cost_among seen l key) is
    ∙ cost_front fs more (subst (λ (l : List Entry). all_formed [] l ≡ true) is formed) seen key
    below
