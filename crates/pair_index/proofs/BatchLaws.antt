-- The keys of a batch, as they are hashed and taken in.
use Rattle.std.proofs.Common.{◌≡◌, ℕ, ◌+◌, ◌<◌, Bool, true, false, List, [], ◌∷◌, ◌++◌, length, map, take, get_or, Some, None, refl, sym, ◌∙◌, ap, subst, arith, append_assoc}
use Rattle.std.proofs.lemmas.List.{append-nil, take_more, map-append, length-map, length-take-le, get_or-map, flat_map_more}
use Rattle.std.proofs.lemmas.List.Concat.{get_or-flat_map}
use Rattle.std.proofs.lemmas.List.Folds.{length-flat_map-take}
use Rattle.sha2.specs.Sha256.{sha256}
use Rattle.cache_api.specs.Pairs.{Pair}
use Rattle.record_log.specs.Kinds.{Entry}
use Rattle.blob_pool.specs.Contents.{contents_of}
use Rattle.pair_frames.specs.Pairs.{holds_pair, pair_in, pairs_in}
use Rattle.pair_frames.specs.Joins.{pairs_in-push, pairs_in-none}
use Rattle.pair_frames.specs.Reading.{record_places, record_places-push, record_places-same}
use Rattle.pair_reader.specs.declared.wanted.Lengths.{Lengths}
use Rattle.pair_reader.specs.declared.key.KeyText.{KeyText}
use Rattle.pair_reader.specs.Answers.{is_one_of, text_where, print_where}
use Rattle.pair_index.specs.declared.batch.Batch.{Batch}
use Rattle.pair_index.specs.Keys.{len_of, is_hashed}
use Rattle.pair_index.specs.Batch.{key_of, listed_text, text_in, texts_of, NumbersBelow, IsBatchOf}
use Rattle.pair_index.proofs.IndexLaws.{Below, below_cons, below_both, next_frame}

-- ---- texts

-- those of one key more
pub texts_next : (keys : List KeyText) (i : ℕ) (key : KeyText) → i < length keys
    → key ≡ get_or keys i key
    → texts_of (take (i + 1) keys) ≡ texts_of (take i keys) ++ text_in key
texts_next keys i key lt is =
    ap texts_of (take_more keys i key lt) ∙ sym (flat_map_more text_in [] (take i keys) (get_or keys i key))
    ∙ ap (λ (k : KeyText). texts_of (take i keys) ++ text_in k) (sym is)

-- the fingerprint of a text that was read stands behind those of the texts before it
pub record IsPrintAt (prints : List (List ℕ)) (at : ℕ) (text : List ℕ) : Type 0 where
  pub inside : at < length prints
  pub print : (d : List ℕ) → get_or prints at d ≡ sha256 text

pub print_there : (keys : List KeyText) (prints : List (List ℕ)) (i at : ℕ) (key : KeyText)
    (text : List ℕ) → prints ≡ map sha256 (texts_of keys)
    → at ≡ length (texts_of (take i keys)) → i < length keys → key ≡ get_or keys i key
    → key.text ≡ Some text → IsPrintAt prints at text
print_there keys prints i at key text are before lt is has =
    let here : text_in (get_or keys i key) ≡ text ∷ [] = ap text_in (sym is) ∙ ap listed_text has in
    let texts = texts_of keys in
    let room : at < length texts =
    omega (arith, length-flat_map-take text_in keys i key lt, before, ap length here) in
    let at_start : at ≡ length (texts_of (take i keys)) + 0 = omega (arith, before) in
    let stands : get_or texts at [] ≡ text =
    ap (λ (n : ℕ). get_or texts n []) at_start
    ∙ get_or-flat_map text_in keys i 0 key [] lt (omega (arith, ap length here))
    ∙ ap (λ (l : List (List ℕ)). get_or l 0 []) here in
    record {
      inside = omega (arith, room, ap length are, length-map texts sha256);
      print = λ d. ap (λ (l : List (List ℕ)). get_or l at d) are
          ∙ get_or-map sha256 texts at [] d room ∙ ap sha256 stands;
    }

-- ---- keys

-- the key there is that of the pair there
pub key_there : (lengths : Lengths) (keys : List KeyText) (pairs : List Pair) (i : ℕ)
    (key : KeyText) (d : Pair) → keys ≡ map (key_of lengths) pairs → i < length keys
    → key ≡ get_or keys i key → key ≡ key_of lengths (get_or pairs i d)
key_there lengths keys pairs i key d are lt is =
    is ∙ ap (λ (l : List KeyText). get_or l i key) are
    ∙ get_or-map (key_of lengths) pairs i d key
    (omega (arith, lt, ap length are, length-map pairs (key_of lengths)))

print_by : (b : Bool) (key text : List ℕ) → text_where b key ≡ Some text
    → Some (sha256 text) ≡ print_where b key
print_by true key text is = cc
print_by false key text is = cc

none_by : (b : Bool) (key : List ℕ) → text_where b key ≡ None → None ≡ print_where b key
none_by true key is = cc
none_by false key is = refl

-- its fingerprint is that of the text that was read
pub print_some : (lengths now : Lengths) (pair : Pair) (key : KeyText) (text : List ℕ)
    → now ≡ lengths → key ≡ key_of lengths pair → key.text ≡ Some text
    → Some (sha256 text) ≡ print_where (is_one_of now key.len) pair.0
print_some lengths now pair key text same is has =
    print_by (is_hashed lengths pair) pair.0 text (sym (ap (λ (k : KeyText). k.text) is) ∙ has)
    ∙ (λ i. print_where (is_one_of (sym same i) (sym is i).len) pair.0)

-- and it has none where no text was read
pub print_none : (lengths now : Lengths) (pair : Pair) (key : KeyText)
    → now ≡ lengths → key ≡ key_of lengths pair → key.text ≡ None
    → None ≡ print_where (is_one_of now key.len) pair.0
print_none lengths now pair key same is has =
    none_by (is_hashed lengths pair) pair.0 (sym (ap (λ (k : KeyText). k.text) is) ∙ has)
    ∙ (λ i. print_where (is_one_of (sym same i) (sym is i).len) pair.0)

-- pairs up to a number, and one more
pub pairs_next : (known pairs : List Pair) (i : ℕ) (d : Pair) → i < length pairs
    → known ++ take (i + 1) pairs ≡ (known ++ take i pairs) ++ get_or pairs i d ∷ []
pairs_next known pairs i d lt =
    ap (λ (l : List Pair). known ++ l) (take_more pairs i d lt)
    ∙ sym (append_assoc known (take i pairs) (get_or pairs i d ∷ []))

-- ---- frames of the batch

pub batch_none : (lengths : Lengths) (fs : List Entry) (first : ℕ) (batch : Batch)
    → batch.next ≡ first → batch.numbers.items ≡ [] → batch.keys.items ≡ []
    → IsBatchOf lengths fs first batch
batch_none lengths fs first batch next numbers keys = record {
  pairs = [];
  places = ap (λ (n : ℕ). record_places 0 (take n fs)) next
      ∙ sym (append-nil (record_places 0 (take first fs)))
      ∙ ap (λ (l : List ℕ). record_places 0 (take first fs) ++ l) (sym numbers);
  pairs_are = ap (λ (n : ℕ). pairs_in (take n fs)) next ∙ sym (append-nil (pairs_in (take first fs)));
  keys = keys;
}

-- what was read is of the pair
pub key_is : (lengths : Lengths) (key : KeyText) (pair : Pair) → key.len ≡ len_of pair
    → key.text ≡ text_where (is_one_of lengths key.len) pair.0 → key ≡ key_of lengths pair
key_is lengths key pair len text = λ i. record {
  len = len i;
  text = (text ∙ ap (λ (n : ℕ). text_where (is_one_of lengths n) pair.0) len) i;
}

-- one frame more, which stands for a pair
pub batch_more : (lengths : Lengths) (fs : List Entry) (first : ℕ) (old new : Batch)
    (key : KeyText) (d : Entry) → old.next < length fs
    → holds_pair (get_or fs old.next d).kind ≡ true
    → key ≡ key_of lengths (pair_in (contents_of (take old.next fs)) (get_or fs old.next d))
    → new.numbers.items ≡ old.numbers.items ++ old.next ∷ []
    → new.keys.items ≡ old.keys.items ++ key ∷ [] → new.next ≡ old.next + 1
    → IsBatchOf lengths fs first old → IsBatchOf lengths fs first new
batch_more lengths fs first old new key d lt holds is numbers keys later x =
    let n = old.next in
    let e = get_or fs n d in
    let pair : Pair = pair_in (contents_of (take n fs)) e in
    let next : take new.next fs ≡ take n fs ++ e ∷ [] =
    ap (λ (k : ℕ). take k fs) later ∙ next_frame fs n d lt in
    let many : 0 + length (take n fs) ≡ n = omega (arith, length-take-le n fs (omega (arith, lt))) in
    record {
      pairs = x.pairs ++ pair ∷ [];
      places = ap (record_places 0) next ∙ record_places-push 0 (take n fs) e holds
          ∙ (λ i. x.places i ++ many i ∷ [])
          ∙ append_assoc (record_places 0 (take first fs)) old.numbers.items (n ∷ [])
          ∙ ap (λ (l : List ℕ). record_places 0 (take first fs) ++ l) (sym numbers);
      pairs_are = ap pairs_in next ∙ pairs_in-push (take n fs) e holds
          ∙ ap (λ (l : List Pair). l ++ pair ∷ []) x.pairs_are
          ∙ append_assoc (pairs_in (take first fs)) x.pairs (pair ∷ []);
      keys = keys ∙ (λ i. x.keys i ++ is i ∷ []) ∙ sym (map-append (key_of lengths) x.pairs (pair ∷ []));
    }

-- and one that does not
pub batch_same : (lengths : Lengths) (fs : List Entry) (first : ℕ) (old new : Batch) (d : Entry)
    → old.next < length fs → holds_pair (get_or fs old.next d).kind ≡ false
    → new.numbers.items ≡ old.numbers.items → new.keys.items ≡ old.keys.items
    → new.next ≡ old.next + 1 → IsBatchOf lengths fs first old → IsBatchOf lengths fs first new
batch_same lengths fs first old new d lt other numbers keys later x =
    let n = old.next in
    let e = get_or fs n d in
    let next : take new.next fs ≡ take n fs ++ e ∷ [] =
    ap (λ (k : ℕ). take k fs) later ∙ next_frame fs n d lt in
    record {
      pairs = x.pairs;
      places = ap (record_places 0) next ∙ record_places-same 0 (take n fs) e other ∙ x.places
          ∙ ap (λ (l : List ℕ). record_places 0 (take first fs) ++ l) (sym numbers);
      pairs_are = ap pairs_in next ∙ pairs_in-none (take n fs) (e ∷ []) (other, tt) ∙ x.pairs_are;
      keys = keys ∙ x.keys;
    }

-- ---- their numbers

pub numbers_none : (batch : Batch) → batch.numbers.items ≡ [] → NumbersBelow batch
numbers_none batch none i lt = absurd (omega (arith, lt, ap length none))

pub numbers_more : (old new : Batch) → new.numbers.items ≡ old.numbers.items ++ old.next ∷ []
    → new.next ≡ old.next + 1 → NumbersBelow old → NumbersBelow new
numbers_more old new numbers later below =
    subst (λ (l : List ℕ). Below l new.next) (sym numbers)
    (below_both old.numbers.items (old.next ∷ []) old.next new.next below
    (below_cons old.next [] new.next (omega (arith, later)) (λ i lt. absurd (omega (arith, lt))))
    (omega (arith, later)))

pub numbers_same : (old new : Batch) → new.numbers.items ≡ old.numbers.items
    → new.next ≡ old.next + 1 → NumbersBelow old → NumbersBelow new
numbers_same old new numbers later below =
    subst (λ (l : List ℕ). Below l new.next) (sym numbers)
    (λ i lt. omega (arith, below i lt, later))
