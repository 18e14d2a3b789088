-- A search from the last pair to the first.
use Rattle.std.proofs.Common.{◌≡◌, ℕ, zero, suc, ◌+◌, ◌-◌, ◌<◌, ◌≤◌, Bool, true, false, cond, List, [], ◌∷◌, length, map, get_or, drop, Option, Some, None, refl, sym, ◌∙◌, ap, subst, arith}
use Rattle.std.specs.Prelude.{bytes_eq, nat_eq}
use Rattle.std.proofs.lemmas.List.{drop_more, drop_all, get_or-map, length-map}
use Rattle.std.proofs.lemmas.Slice.Eq.{bytes_eq-Decides}
use Rattle.std.proofs.lemmas.Bool.{eq-eqb}
use Rattle.sha2.specs.Sha256.{sha256}
use Rattle.rel_path.specs.Paths.{name_eq}
use Rattle.rel_path.proofs.PathLaws.{name_same}
use Rattle.globs.specs.declared.out_set.OutSet.{OutSet}
use Rattle.cache_api.specs.Artifacts.{Artifact}
use Rattle.cache_api.specs.Memory.{capped}
use Rattle.cache_api.specs.Reading.{Reader}
use Rattle.cache_api.specs.Found.{given, if_owned, or_else, found}
use Rattle.cache_api.specs.Pairs.{Pair}
use Rattle.pair_reader.specs.declared.wanted.Lengths.{Lengths}
use Rattle.pair_reader.specs.Answers.{is_one_of}
use Rattle.pair_index.specs.declared.keys.Keys.{Keys}
use Rattle.pair_index.specs.Keys.{len_of, print_of, is_hashed, numbers_from, picked, passing, numbers_in, IsKeysOf, is_sought_by_print, place_count, number_at, may_have}
use Rattle.pair_index.specs.Seen.{numbered}
use Rattle.pair_index.specs.Costs.{reads_pair, sum_where}

-- ---- pairs that a search passes by give nothing

same_read : (by : Bool) (key : List ℕ) (pair : Pair) → pair.0 ≡ key → reads_pair by key pair ≡ true
same_read true key pair is =
    ap (λ (l : List ℕ). bytes_eq (sha256 l) (sha256 key)) is ∙ (bytes_eq-Decides (sha256 key) (sha256 key)).1 refl
same_read false key pair is =
    ap (λ (l : List ℕ). nat_eq (capped (length l)) (capped (length key))) is ∙ eq-eqb (capped (length key)) (capped (length key)) refl

given_by : (read : Reader) (key : List ℕ) (outs : OutSet) (pair : Pair) (b : Bool)
    → b ≡ false → cond b (if_owned outs (read pair.1)) None ≡ None
given_by read key outs pair b is =
    ap (λ (x : Bool). cond x (if_owned outs (read pair.1)) None) is

no_key : (pair : Pair) (key : List ℕ) → (pair.0 ≡ key → ⊥) → (b : Bool) → b ≡ name_eq pair.0 key → b ≡ false
no_key pair key other true is = absurd (other (name_same pair.0 key (sym is)))
no_key pair key other false is = refl

other_gives : (read : Reader) (key : List ℕ) (outs : OutSet) (pair : Pair) → (pair.0 ≡ key → ⊥)
    → given read key outs pair ≡ None
other_gives read key outs pair other =
    given_by read key outs pair (name_eq pair.0 key) (no_key pair key other (name_eq pair.0 key) refl)

pub unread_gives : (read : Reader) (by : Bool) (key : List ℕ) (outs : OutSet) (pair : Pair)
    → reads_pair by key pair ≡ false → given read key outs pair ≡ None
unread_gives read by key outs pair unread =
    other_gives read key outs pair (λ is. let read_it = same_read by key pair is in absurd (cc))

-- ---- the pairs among which a key is sought

abbrev pub sought : {A : Type 0} → Bool → Lengths → List A → List Pair → List A
sought true lengths xs pairs = picked (is_hashed lengths) xs pairs
sought false lengths xs pairs = xs

-- ---- what pairs give, and nothing where one is not seen

-- a list with that element in the place of those whose numbers fail a test, where the first has that number
abbrev pub masked : {A : Type 0} → (ℕ → Bool) → A → ℕ → List A → List A
masked test d n [] = []
masked test d n (x ∷ xs) = cond (test n) x d ∷ masked test d (n + 1) xs

pub length-masked : {A : Type 0} (test : ℕ → Bool) (d : A) (n : ℕ) (xs : List A)
    → length (masked test d n xs) ≡ length xs
length-masked test d n [] = refl
length-masked test d n (x ∷ xs) = omega (arith, length-masked test d (n + 1) xs)

masked_at : {A : Type 0} (test : ℕ → Bool) (d : A) (n : ℕ) (xs : List A) (k : ℕ) → k < length xs
    → get_or (masked test d n xs) k d ≡ cond (test (n + k)) (get_or xs k d) d
masked_at test d n [] k lt = absurd (omega arith)
masked_at test d n (x ∷ xs) zero lt = ap (λ (m : ℕ). cond (test m) x d) (omega arith)
masked_at test d n (x ∷ xs) (suc k) lt =
    let next : n + 1 + k ≡ n + suc k = omega arith in
    masked_at test d (n + 1) xs k (omega (arith, lt))
    ∙ ap (λ (m : ℕ). cond (test m) (get_or xs k d) d) next

pub masked_here : {A : Type 0} (test : ℕ → Bool) (d : A) (xs : List A) (k : ℕ) → k < length xs
    → get_or (masked test d 0 xs) k d ≡ cond (test k) (get_or xs k d) d
masked_here test d xs k lt =
    let from_zero : 0 + k ≡ k = omega arith in
    masked_at test d 0 xs k lt ∙ ap (λ (m : ℕ). cond (test m) (get_or xs k d) d) from_zero

-- the last that is something
abbrev pub last_given : List (Option Artifact) → Option Artifact
last_given [] = None
last_given (g ∷ gs) = or_else (last_given gs) g

or_none : (a : Option Artifact) → or_else a None ≡ a
or_none None = refl
or_none (Some x) = refl

pub none_by : (b : Bool) (g : Option Artifact) → g ≡ None → cond b g None ≡ None
none_by true g is = is
none_by false g is = refl

found_by : (b : Bool) (read : Reader) (key : List ℕ) (outs : OutSet) (pair : Pair) (some : List Pair)
    (gives : List (Option Artifact)) → found read key outs some ≡ last_given gives
    → found read key outs (cond b (pair ∷ some) some)
    ≡ last_given (cond b (given read key outs pair) None ∷ gives)
found_by true read key outs pair some gives is =
    ap (λ (o : Option Artifact). or_else o (given read key outs pair)) is
found_by false read key outs pair some gives is = is ∙ sym (or_none (last_given gives))

-- what is found among those that are seen
pub found_seen : (test : ℕ → Bool) (read : Reader) (key : List ℕ) (outs : OutSet) (n : ℕ) (pairs : List Pair)
    → found read key outs (numbered test n pairs)
    ≡ last_given (masked test None n (map (given read key outs) pairs))
found_seen test read key outs n [] = refl
found_seen test read key outs n (pair ∷ pairs) =
    found_by (test n) read key outs pair (numbered test (n + 1) pairs)
    (masked test None (n + 1) (map (given read key outs) pairs))
    (found_seen test read key outs (n + 1) pairs)

last_by : (b : Bool) (g : Option Artifact) (some all : List (Option Artifact))
    → last_given some ≡ last_given all → (b ≡ false → g ≡ None)
    → last_given (cond b (g ∷ some) some) ≡ last_given (g ∷ all)
last_by true g some all is none = ap (λ (o : Option Artifact). or_else o g) is
last_by false g some all is none =
    is ∙ sym (or_none (last_given all)) ∙ ap (or_else (last_given all)) (sym (none refl))

last_picked : (picks : Pair → Bool) (test : ℕ → Bool) (gives : Pair → Option Artifact)
    → ((pair : Pair) → picks pair ≡ false → gives pair ≡ None) → (n : ℕ) (pairs : List Pair)
    → last_given (picked picks (masked test None n (map gives pairs)) pairs)
    ≡ last_given (masked test None n (map gives pairs))
last_picked picks test gives none n [] = refl
last_picked picks test gives none n (pair ∷ pairs) =
    last_by (picks pair) (cond (test n) (gives pair) None)
    (picked picks (masked test None (n + 1) (map gives pairs)) pairs)
    (masked test None (n + 1) (map gives pairs))
    (last_picked picks test gives none (n + 1) pairs)
    (λ other. none_by (test n) (gives pair) (none pair other))

-- it is among the pairs where a key is sought
pub last_sought : (by : Bool) (lengths : Lengths) (test : ℕ → Bool) (read : Reader) (key : List ℕ) (outs : OutSet)
    → by ≡ is_sought_by_print lengths key → (pairs : List Pair)
    → last_given (sought by lengths (masked test None 0 (map (given read key outs) pairs)) pairs)
    ≡ last_given (masked test None 0 (map (given read key outs) pairs))
last_sought false lengths test read key outs is pairs = refl
last_sought true lengths test read key outs is pairs =
    last_picked (is_hashed lengths) test (given read key outs)
    (λ pair other. other_gives read key outs pair (λ same.
    let here : is_hashed lengths pair ≡ true =
    ap (λ (l : List ℕ). is_one_of lengths (capped (length l))) same ∙ sym is in absurd (cc)))
    0 pairs

pub sum_none : (test : Pair → Bool) (ns : List ℕ) → sum_where test ns [] ≡ 0
sum_none test [] = refl
sum_none test (n ∷ ns) = refl

sum_by : (b : Bool) (test : Pair → Bool) (n : ℕ) (pair : Pair) (ns all : List ℕ) (ps pairs : List Pair)
    → sum_where test ns ps ≤ sum_where test all pairs
    → sum_where test (cond b (n ∷ ns) ns) (cond b (pair ∷ ps) ps) ≤ sum_where test (n ∷ all) (pair ∷ pairs)
sum_by true test n pair ns all ps pairs le = omega (arith, le)
sum_by false test n pair ns all ps pairs le = omega (arith, le)

sum_picked : (picks test : Pair → Bool) (ns : List ℕ) (pairs : List Pair)
    → sum_where test (picked picks ns pairs) (passing picks pairs) ≤ sum_where test ns pairs
sum_picked picks test [] [] = omega arith
sum_picked picks test [] (pair ∷ pairs) = omega arith
sum_picked picks test (n ∷ ns) [] = omega arith
sum_picked picks test (n ∷ ns) (pair ∷ pairs) =
    sum_by (picks pair) test n pair (picked picks ns pairs) ns (passing picks pairs) pairs
    (sum_picked picks test ns pairs)

pub sum_sought : (by : Bool) (lengths : Lengths) (test : Pair → Bool) (ns : List ℕ) (pairs : List Pair)
    → sum_where test (sought by lengths ns pairs) (sought by lengths pairs pairs) ≤ sum_where test ns pairs
sum_sought true lengths test ns pairs = sum_picked (is_hashed lengths) test ns pairs
sum_sought false lengths test ns pairs = omega arith

zero_by : (b : Bool) (n : ℕ) → n ≡ cond b 0 0 + n
zero_by true n = omega arith
zero_by false n = omega arith

seen_by : (b : Bool) (test : Pair → Bool) (n : ℕ) (pair : Pair) (ns all : List ℕ) (ps pairs : List Pair)
    → sum_where test ns ps ≡ sum_where test all pairs
    → sum_where test (cond b (n ∷ ns) ns) (cond b (pair ∷ ps) ps)
    ≡ sum_where test (cond b n 0 ∷ all) (pair ∷ pairs)
seen_by true test n pair ns all ps pairs is = omega (arith, is)
seen_by false test n pair ns all ps pairs is = is ∙ zero_by (test pair) (sum_where test all pairs)

-- the sum over those that are seen, where those that are not add nothing
pub sum_numbered : (sees : ℕ → Bool) (test : Pair → Bool) (n : ℕ) (ns : List ℕ) (pairs : List Pair)
    → sum_where test (numbered sees n ns) (numbered sees n pairs)
    ≡ sum_where test (masked sees 0 n ns) pairs
sum_numbered sees test n [] pairs = refl
sum_numbered sees test n (m ∷ ns) [] = sum_none test (numbered sees n (m ∷ ns))
sum_numbered sees test n (m ∷ ns) (pair ∷ pairs) =
    seen_by (sees n) test m pair (numbered sees (n + 1) ns) (masked sees 0 (n + 1) ns)
    (numbered sees (n + 1) pairs) pairs (sum_numbered sees test (n + 1) ns pairs)

-- ---- the number of the pair at a place

record IsPlace {A : Type 0} (numbers : List ℕ) (picks xs : List A) (n j k count : ℕ) (d : A) : Type 0 where
  number : get_or numbers j 0 ≡ n + k
  inside : k < count
  same : get_or picks j d ≡ get_or xs k d

place_by : {A : Type 0} (b : Bool) (numbers : List ℕ) (picks xs : List A) (x : A) (n j count : ℕ) (d : A)
    → ((i : ℕ) → i < length numbers → (k : ℕ) × IsPlace numbers picks xs (n + 1) i k count d)
    → j < length (cond b (n ∷ numbers) numbers)
    → (k : ℕ) × IsPlace (cond b (n ∷ numbers) numbers) (cond b (x ∷ picks) picks) (x ∷ xs) n j k (suc count) d
place_by true numbers picks xs x n zero count d more lt =
    (0, record { number = omega arith; inside = omega arith; same = refl })
place_by true numbers picks xs x n (suc j) count d more lt =
    let (k, y) = more j (omega (arith, lt)) in
    (suc k, record { number = omega (arith, y.number); inside = omega (arith, y.inside); same = y.same })
place_by false numbers picks xs x n j count d more lt =
    let (k, y) = more j lt in
    (suc k, record { number = omega (arith, y.number); inside = omega (arith, y.inside); same = y.same })

place_of : {A : Type 0} (test : Pair → Bool) (n : ℕ) (xs : List A) (pairs : List Pair) (d : A)
    → length xs ≡ length pairs → (j : ℕ) → j < length (numbers_from test n pairs)
    → (k : ℕ) × IsPlace (numbers_from test n pairs) (picked test xs pairs) xs n j k (length pairs) d
place_of test n xs [] d even j lt = absurd (omega arith)
place_of test n [] (pair ∷ pairs) d even j lt = absurd (omega (arith, even))
place_of test n (x ∷ xs) (pair ∷ pairs) d even j lt =
    place_by (test pair) (numbers_from test (n + 1) pairs) (picked test xs pairs) xs x n j (length pairs) d
    (place_of test (n + 1) xs pairs d (omega (arith, even))) lt

-- the pair at a place, and what stands beside it
pub record IsNumberOf {A : Type 0} (by : Bool) (keys : Keys) (pairs : List Pair) (xs : List A) (at : ℕ) (d : A) : Type 0 where
  pub inside : number_at by keys at < length pairs
  pub same : get_or (sought by keys.lengths xs pairs) at d ≡ get_or xs (number_at by keys at) d

pub number_of : {A : Type 0} (by : Bool) (keys : Keys) (pairs : List Pair) (xs : List A) (at : ℕ) (d : A)
    → IsKeysOf keys pairs → length xs ≡ length pairs → at < place_count by keys
    → IsNumberOf by keys pairs xs at d
number_of true keys pairs xs at d x even lt =
    let many : at < length (numbers_from (is_hashed keys.lengths) 0 pairs) = omega (arith, lt, keys.even, ap length x.numbers) in
    let (k, y) = place_of (is_hashed keys.lengths) 0 xs pairs d even at many in
    let is : k ≡ get_or (numbers_in keys) at 0 = omega (arith, y.number, ap (λ (l : List ℕ). get_or l at 0) x.numbers) in
    record {
      inside = omega (arith, y.inside, is);
      same = y.same ∙ ap (λ (n : ℕ). get_or xs n d) is;
    }
number_of false keys pairs xs at d x even lt =
    record { inside = omega (arith, lt, ap length x.lens, length-map pairs len_of); same = refl }

-- ---- a place may have the key where the pair there is read

pub places_are : (by : Bool) (keys : Keys) (pairs : List Pair) → IsKeysOf keys pairs
    → place_count by keys ≡ length (sought by keys.lengths pairs pairs)
places_are true keys pairs x = ap length x.prints ∙ length-map (passing (is_hashed keys.lengths) pairs) print_of
places_are false keys pairs x = ap length x.lens ∙ length-map pairs len_of

pub may_read : (by : Bool) (keys : Keys) (key : List ℕ) (pairs : List Pair) (i : ℕ) (d : Pair)
    → IsKeysOf keys pairs → i < length (sought by keys.lengths pairs pairs)
    → may_have by keys key i ≡ reads_pair by key (get_or (sought by keys.lengths pairs pairs) i d)
may_read true keys key pairs i d x lt =
    ap (λ (l : List (List ℕ)). bytes_eq (get_or l i []) (sha256 key)) x.prints
    ∙ ap (λ (p : List ℕ). bytes_eq p (sha256 key)) (get_or-map print_of (passing (is_hashed keys.lengths) pairs) i d [] lt)
may_read false keys key pairs i d x lt =
    ap (λ (l : List ℕ). nat_eq (get_or l i 0) (capped (length key))) x.lens
    ∙ ap (λ (n : ℕ). nat_eq n (capped (length key))) (get_or-map len_of pairs i d 0 lt)

-- ---- what is known once all places behind one were looked at

pub record IsSought (by : Bool) (key : List ℕ) (pairs : List Pair) (gives : List (Option Artifact))
    (costs : List ℕ) (start now limit : ℕ) : Type 0 where
  pub none : last_given (drop limit gives) ≡ None
  pub few : now ≤ start + sum_where (reads_pair by key) (drop limit costs) (drop limit pairs)

-- a place is passed by: it is not read, and gives nothing
pub record IsPassed (by : Bool) (key : List ℕ) (pairs : List Pair) (gives : List (Option Artifact)) (d : Pair) (i : ℕ) : Type 0 where
  pub unread : reads_pair by key (get_or pairs i d) ≡ false
  pub nothing : get_or gives i None ≡ None

module _ (by : Bool) (key : List ℕ) (pairs : List Pair) (gives : List (Option Artifact)) (costs : List ℕ)
    (even : length costs ≡ length pairs) (all : length gives ≡ length pairs) (start : ℕ) where
  pub sought_none : (limit : ℕ) → length pairs ≤ limit → IsSought by key pairs gives costs start start limit
  sought_none limit le = record {
    none = ap last_given (drop_all limit gives (omega (arith, le, all)));
    few = omega arith;
  }

  at_one : (i : ℕ) (d : Pair) → i < length pairs
      → sum_where (reads_pair by key) (drop i costs) (drop i pairs)
      ≡ cond (reads_pair by key (get_or pairs i d)) (get_or costs i 0) 0
      + sum_where (reads_pair by key) (drop (i + 1) costs) (drop (i + 1) pairs)
  at_one i d lt =
      (λ j. sum_where (reads_pair by key) (drop_more costs i 0 (omega (arith, lt, even)) j) (drop_more pairs i d lt j))

  given_one : (i : ℕ) → i < length pairs → last_given (drop (i + 1) gives) ≡ None
      → last_given (drop i gives) ≡ get_or gives i None
  given_one i lt none =
      ap last_given (drop_more gives i None (omega (arith, lt, all)))
      ∙ ap (λ (o : Option Artifact). or_else o (get_or gives i None)) none

  -- a place that is passed by
  pass : (now i : ℕ) (d : Pair) → i < length pairs → IsPassed by key pairs gives d i
      → IsSought by key pairs gives costs start now (i + 1) → IsSought by key pairs gives costs start now i
  pass now i d lt past x = record {
    none = given_one i lt x.none ∙ past.nothing;
    few =
        let unread = past.unread in omega (arith, x.few, at_one i d lt);
  }

  -- many of them
  pass_all : (now lo k : ℕ) (d : Pair) → lo + k ≤ length pairs
      → ((i : ℕ) → lo ≤ i → i < lo + k → IsPassed by key pairs gives d i)
      → IsSought by key pairs gives costs start now (lo + k) → IsSought by key pairs gives costs start now lo
  pass_all now lo zero d le past x =
      subst (IsSought by key pairs gives costs start now) (omega arith) x
  pass_all now lo (suc k) d le past x =
      pass_all now lo k d (omega (arith, le)) (λ i from to. past i from (omega (arith, to)))
      (pass now (lo + k) d (omega (arith, le)) (past (lo + k) (omega arith) (omega arith))
      (subst (IsSought by key pairs gives costs start now) (omega arith) x))

  pub passed : (now lo hi : ℕ) (d : Pair) → lo ≤ hi → hi ≤ length pairs
      → ((i : ℕ) → lo ≤ i → i < hi → IsPassed by key pairs gives d i)
      → IsSought by key pairs gives costs start now hi → IsSought by key pairs gives costs start now lo
  passed now lo hi d le few past x =
      let k : ℕ = hi - lo in
      let is : hi ≡ lo + k = omega (arith, le) in
      pass_all now lo k d (omega (arith, few, le)) (λ i from to. past i from (omega (arith, to, le)))
      (subst (IsSought by key pairs gives costs start now) is x)

  -- one that was looked at, and gave nothing
  pub looked : (now next i : ℕ) (d : Pair) → i < length pairs → reads_pair by key (get_or pairs i d) ≡ true
      → get_or gives i None ≡ None → next ≤ now + get_or costs i 0
      → IsSought by key pairs gives costs start now (i + 1) → IsSought by key pairs gives costs start next i
  looked now next i d lt reads nothing le x = record {
    none = given_one i lt x.none ∙ nothing;
    few =
        let sum = at_one i d lt ∙ ap (λ (b : Bool). cond b (get_or costs i 0) 0
        + sum_where (reads_pair by key) (drop (i + 1) costs) (drop (i + 1) pairs)) reads in
        omega (arith, x.few, sum, le);
  }

  -- so many reads at most behind a place, together with those for the pair there
  pub most : (now i : ℕ) (d : Pair) → i < length pairs → reads_pair by key (get_or pairs i d) ≡ true
      → IsSought by key pairs gives costs start now (i + 1)
      → now + get_or costs i 0 ≤ start + sum_where (reads_pair by key) costs pairs
  most now i d lt reads x =
      let sum = at_one i d lt ∙ ap (λ (b : Bool). cond b (get_or costs i 0) 0
      + sum_where (reads_pair by key) (drop (i + 1) costs) (drop (i + 1) pairs)) reads in
      omega (arith, x.few, sum, drop_sum i costs pairs)
    where
      drop_sum : (n : ℕ) (ns : List ℕ) (ps : List Pair)
          → sum_where (reads_pair by key) (drop n ns) (drop n ps) ≤ sum_where (reads_pair by key) ns ps
      drop_sum zero ns ps = omega arith
      drop_sum (suc n) [] ps = omega arith
      drop_sum (suc n) (m ∷ ns) [] = omega (arith, sum_none (reads_pair by key) (drop n ns))
      drop_sum (suc n) (m ∷ ns) (p ∷ ps) = omega (arith, drop_sum n ns ps)

  -- one that gave something
  pub found_here : (i : ℕ) (a : Artifact) → i < length pairs → last_given (drop (i + 1) gives) ≡ None
      → get_or gives i None ≡ Some a → last_given gives ≡ Some a
  found_here i a lt none is = front i gives (given_one i lt none ∙ is)
    where
      front : (n : ℕ) (gs : List (Option Artifact)) → last_given (drop n gs) ≡ Some a → last_given gs ≡ Some a
      front zero gs is = is
      front (suc n) [] is = is
      front (suc n) (g ∷ gs) is = ap (λ (o : Option Artifact). or_else o g) (front n gs is)
