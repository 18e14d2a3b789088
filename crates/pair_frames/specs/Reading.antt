-- Where the frames stand that hold pairs, and how a pair is read with all contents at hand.
use Rattle.std.proofs.Common.{◌≡◌, ℕ, zero, suc, ◌+◌, ◌<◌, Bool, true, false, cond, List, [], ◌∷◌, ◌++◌, length, get_or, take, drop, Option, Some, None, refl, sym, ◌∙◌, ap, subst, arith, append_assoc, take-append-drop}
use Rattle.std.specs.Prelude.{◌==◌, ◌||◌, if◌then◌else◌}
use Rattle.std.proofs.lemmas.Bool.{and_parts, ltb-true}
use Rattle.std.proofs.lemmas.List.{append-nil, get_or_append_left, get_or_default}
use Rattle.cache_api.specs.Pairs.{Pair}
use Rattle.record_log.specs.declared.kind.TheConstants.{PAIR, CONTENT}
use Rattle.record_log.specs.Kinds.{Entry, width_of, holds_record, value_fits, form, blobs, has_form}
use Rattle.record_log.specs.Pieces.{Piece, Record, record_of, is_below, all_below, both_below}
use Rattle.record_log.specs.Pieces.Piece.{Literal, Content}
use Rattle.record_log.specs.Frames.{all_formed}
use Rattle.record_log.specs.Texts.{formed_at}
use Rattle.blob_pool.specs.Contents.{contents_of}
use Rattle.blob_pool.specs.Blobs.{contents_of-append, length-contents_of}
use Rattle.pair_frames.specs.Pairs.{piece_bytes, joined, joined_pair, holds_pair, pair_in, pairs_from, pairs_in, HoldNoPair}
use Rattle.pair_frames.specs.Joins.{and_value, contents_by, pairs_by, content_apart}

-- the numbers of the frames that hold pairs, where the first frame has that number
abbrev pub record_places : ℕ → List Entry → List ℕ
record_places n [] = []
record_places n (e ∷ es) =
    if holds_pair e.kind then n ∷ record_places (n + 1) es else record_places (n + 1) es

-- The frame with that number holds a pair, and it is that one among the pairs. Its contents are
-- those before it.
pub record HoldsPair (fs : List Entry) (i k : ℕ) (d : Entry) (p : Pair) : Type 0 where
  pub inside : k < length fs
  pub kind : holds_pair (get_or fs k d).kind ≡ true
  pub is : get_or (pairs_in fs) i p ≡ pair_in (contents_of (take k fs)) (get_or fs k d)

-- ---- frames behind frames

-- the places of a frame and those behind it
abbrev places_by : Bool → ℕ → List ℕ → List ℕ
places_by pair n rest = cond pair (n ∷ rest) rest

split_by : (pair : Bool) (n : ℕ) (both xs ys : List ℕ) → both ≡ xs ++ ys
    → places_by pair n both ≡ places_by pair n xs ++ ys
split_by true n both xs ys is = ap (λ (l : List ℕ). n ∷ l) is
split_by false n both xs ys is = is

pub record_places-append : (n : ℕ) (fs gs : List Entry)
    → record_places n (fs ++ gs) ≡ record_places n fs ++ record_places (n + length fs) gs
record_places-append n [] gs = ap (λ (k : ℕ). record_places k gs) (omega arith)
record_places-append n (f ∷ fs) gs =
    let next : n + 1 + length fs ≡ n + suc (length fs) = omega arith in
    let front = record_places (n + 1) fs in
    split_by (holds_pair f.kind) n (record_places (n + 1) (fs ++ gs)) front
    (record_places (n + suc (length fs)) gs)
    (record_places-append (n + 1) fs gs ∙ ap (λ (k : ℕ). front ++ record_places k gs) next)

-- one frame more, that holds a pair or none
pub record_places-push : (n : ℕ) (fs : List Entry) (e : Entry) → holds_pair e.kind ≡ true
    → record_places n (fs ++ e ∷ []) ≡ record_places n fs ++ (n + length fs) ∷ []
record_places-push n fs e is =
    record_places-append n fs (e ∷ [])
    ∙ ap (λ (b : Bool). record_places n fs ++ places_by b (n + length fs) []) is

pub record_places-same : (n : ℕ) (fs : List Entry) (e : Entry) → holds_pair e.kind ≡ false
    → record_places n (fs ++ e ∷ []) ≡ record_places n fs
record_places-same n fs e is =
    record_places-append n fs (e ∷ [])
    ∙ ap (λ (b : Bool). record_places n fs ++ places_by b (n + length fs) []) is
    ∙ append-nil (record_places n fs)

-- and frames that hold none
none_by : (pair : Bool) (n : ℕ) (rest : List ℕ) → pair ≡ false → rest ≡ []
    → places_by pair n rest ≡ []
none_by true n rest other is = absurd cc
none_by false n rest other is = is

record_places-nil : (n : ℕ) (gs : List Entry) → HoldNoPair gs → record_places n gs ≡ []
record_places-nil n [] none = refl
record_places-nil n (g ∷ gs) none =
    let rest = record_places-nil (n + 1) gs none.1 in
    none_by (holds_pair g.kind) n (record_places (n + 1) gs) none.0 rest

pub record_places-none : (n : ℕ) (fs gs : List Entry) → HoldNoPair gs
    → record_places n (fs ++ gs) ≡ record_places n fs
record_places-none n fs gs none =
    record_places-append n fs gs
    ∙ ap (λ (l : List ℕ). record_places n fs ++ l) (record_places-nil (n + length fs) gs none)
    ∙ append-nil (record_places n fs)

-- ---- what stands at such a place

even_by : (content pair : Bool) (n : ℕ) (p : Pair) (places : List ℕ) (more rest : List Pair)
    → (content ≡ true → pair ≡ false) → length places ≡ length more → length places ≡ length rest
    → length (places_by pair n places) ≡ length (pairs_by content pair p more rest)
even_by true true n p places more rest apart is are = let other = apart refl in absurd cc
even_by true false n p places more rest apart is are = is
even_by false true n p places more rest apart is are = ap suc are
even_by false false n p places more rest apart is are = are

even_from : (n : ℕ) (contents : List (List ℕ)) (fs : List Entry)
    → length (record_places n fs) ≡ length (pairs_from contents fs)
even_from n contents [] = refl
even_from n contents (f ∷ fs) =
    even_by (f.kind == CONTENT) (holds_pair f.kind) n (pair_in contents f)
    (record_places (n + 1) fs)
    (pairs_from (and_value contents f) fs) (pairs_from contents fs) (content_apart f)
    (even_from (n + 1) (and_value contents f) fs) (even_from (n + 1) contents fs)

-- there are as many places as pairs
pub length-record_places : (fs : List Entry)
    → length (record_places 0 fs) ≡ length (pairs_in fs)
unfolding pairs_in
length-record_places fs = even_from 0 [] fs

-- the same as `HoldsPair`, behind other contents and by the numbers that the frames have
record Holds (places : List ℕ) (pairs : List Pair) (contents : List (List ℕ)) (fs : List Entry)
    (n i k : ℕ) (d : Entry) (p : Pair) : Type 0 where
  place : get_or places i 0 ≡ n + k
  inside : k < length fs
  kind : holds_pair (get_or fs k d).kind ≡ true
  is : get_or pairs i p ≡ pair_in (contents ++ contents_of (take k fs)) (get_or fs k d)

-- each of them does
abbrev AllHold : List (List ℕ) → List Entry → ℕ → Entry → Pair → Type 0
AllHold contents fs n d p =
    (i : ℕ) → i < length (record_places n fs)
    → (k : ℕ) × Holds (record_places n fs) (pairs_from contents fs) contents fs n i k d p

-- behind one frame more
further : (places front : List ℕ) (pairs all : List Pair) (inner contents : List (List ℕ))
    (f : Entry) (fs : List Entry) (n i j k : ℕ) (d : Entry) (p : Pair)
    → Holds places pairs inner fs (n + 1) j k d p
    → inner ++ contents_of (take k fs) ≡ contents ++ contents_of (take (suc k) (f ∷ fs))
    → get_or front i 0 ≡ get_or places j 0 → get_or all i p ≡ get_or pairs j p
    → Holds front all contents (f ∷ fs) n i (suc k) d p
further places front pairs all inner contents f fs n i j k d p x same place is = record {
  place = omega (arith, x.place, place);
  inside = omega (arith, x.inside);
  kind = x.kind;
  is = is ∙ x.is ∙ ap (λ (l : List (List ℕ)). pair_in l (get_or fs k d)) same;
}

behind_content : (contents : List (List ℕ)) (f : Entry) (fs : List Entry) (k : ℕ)
    → true ≡ (f.kind == CONTENT)
    → and_value contents f ++ contents_of (take k fs)
    ≡ contents ++ contents_of (take (suc k) (f ∷ fs))
behind_content contents f fs k is =
    append_assoc contents (f.value ∷ []) (contents_of (take k fs))
    ∙ ap (λ (b : Bool). contents ++ contents_by b f (take k fs)) is

behind_other : (contents : List (List ℕ)) (f : Entry) (fs : List Entry) (k : ℕ)
    → false ≡ (f.kind == CONTENT)
    → contents ++ contents_of (take k fs) ≡ contents ++ contents_of (take (suc k) (f ∷ fs))
behind_other contents f fs k is = ap (λ (b : Bool). contents ++ contents_by b f (take k fs)) is

holds_by : (content pair : Bool) (contents : List (List ℕ)) (f : Entry) (fs : List Entry) (n i : ℕ)
    (d : Entry) (p : Pair) → content ≡ (f.kind == CONTENT) → pair ≡ holds_pair f.kind
    → (content ≡ true → pair ≡ false)
    → AllHold (and_value contents f) fs (n + 1) d p → AllHold contents fs (n + 1) d p
    → i < length (places_by pair n (record_places (n + 1) fs))
    → (k : ℕ) × Holds (places_by pair n (record_places (n + 1) fs))
    (pairs_by content pair (pair_in contents f)
    (pairs_from (and_value contents f) fs) (pairs_from contents fs))
    contents (f ∷ fs) n i k d p
holds_by true true contents f fs n i d p content pair apart more rest lt =
    let other = apart refl in absurd cc
holds_by true false contents f fs n i d p content pair apart more rest lt =
    let (k, x) = more i lt in
    let same = behind_content contents f fs k content in
    (suc k, further _ _ _ _ _ contents f fs n i i k d p x same refl refl)
holds_by false true contents f fs n zero d p content pair apart more rest lt = (
  0,
  record {
    place = omega arith;
    inside = omega arith;
    kind = sym pair;
    is = ap (λ (l : List (List ℕ)). pair_in l f) (sym (append-nil contents));
  },
)
holds_by false true contents f fs n (suc i) d p content pair apart more rest lt =
    let (k, x) = rest i (omega (arith, lt)) in
    let same = behind_other contents f fs k content in
    (suc k, further _ _ _ _ _ contents f fs n (suc i) i k d p x same refl refl)
holds_by false false contents f fs n i d p content pair apart more rest lt =
    let (k, x) = rest i lt in
    let same = behind_other contents f fs k content in
    (suc k, further _ _ _ _ _ contents f fs n i i k d p x same refl refl)

holds : (contents : List (List ℕ)) (fs : List Entry) (n : ℕ) (d : Entry) (p : Pair)
    → AllHold contents fs n d p
holds contents [] n d p i lt = absurd (omega arith)
holds contents (f ∷ fs) n d p i lt =
    holds_by (f.kind == CONTENT) (holds_pair f.kind) contents f fs n i d p
    refl refl (content_apart f)
    (holds (and_value contents f) fs (n + 1) d p) (holds contents fs (n + 1) d p) lt

-- the place of a pair
pub pair_place : (fs : List Entry) (i : ℕ) (d : Entry) (p : Pair) → i < length (pairs_in fs)
    → HoldsPair fs i (get_or (record_places 0 fs) i 0) d p
unfolding pairs_in
pair_place fs i d p lt =
    let (k, x) = holds [] fs 0 d p i (omega (arith, lt, even_from 0 [] fs)) in
    let at : k ≡ get_or (record_places 0 fs) i 0 = omega (arith, x.place) in
    let here : HoldsPair fs i k d p = record { inside = x.inside; kind = x.kind; is = x.is } in
    subst (λ (n : ℕ). HoldsPair fs i n d p) at here

-- ---- with all contents at hand

piece_more : (contents more : List (List ℕ)) (x : Piece) → is_below (length contents) x ≡ true
    → piece_bytes (contents ++ more) x ≡ piece_bytes contents x
piece_more contents more (Literal bytes) below = refl
piece_more contents more (Content n) below =
    get_or_append_left contents more [] n (ltb-true n (length contents) below)

joined_more : (contents more : List (List ℕ)) (pieces : List Piece)
    → all_below (length contents) pieces ≡ true
    → joined (contents ++ more) pieces ≡ joined contents pieces
joined_more contents more [] below = refl
joined_more contents more (x ∷ pieces) below =
    let parts = and_parts _ _ below in
    λ i. piece_more contents more x parts.0 i ++ joined_more contents more pieces parts.1 i

record_more : (contents more : List (List ℕ)) (o : Option Record)
    → both_below (length contents) o ≡ true
    → joined_pair (contents ++ more) o ≡ joined_pair contents o
record_more contents more None below = refl
record_more contents more (Some r) below =
    let parts = and_parts _ _ below in
    λ i. (joined_more contents more r.0 parts.0 i, joined_more contents more r.1 parts.1 i)

more_by : (pair piece : Bool) (contents more : List (List ℕ)) (p : Pair) (o : Option Record)
    → (pair || piece) ≡ true → cond piece (both_below (length contents) o) true ≡ true
    → cond pair p (joined_pair (contents ++ more) o) ≡ cond pair p (joined_pair contents o)
more_by true piece contents more p o holds fits = refl
more_by false true contents more p o holds fits = record_more contents more o fits
more_by false false contents more p o holds fits = absurd cc

-- a pair whose record names none but these contents is the same with more of them
pub pair_more : (contents more : List (List ℕ)) (e : Entry) → holds_pair e.kind ≡ true
    → value_fits (length contents) e.kind e.value ≡ true
    → pair_in (contents ++ more) e ≡ pair_in contents e
unfolding pair_in
pair_more contents more e holds fits =
    let found = record_of (width_of e.kind) e.value in
    more_by (e.kind == PAIR) (holds_record e.kind) contents more (e.key, e.value) found holds fits

value_of_form : (before : List Entry) (e : Entry) → has_form before e ≡ true
    → value_fits (length (contents_of before)) e.kind e.value ≡ true
unfolding has_form form blobs
value_of_form before e formed =
    let fits = and_parts _ _ (and_parts _ _ formed).0 in
    subst (λ (n : ℕ). value_fits n e.kind e.value ≡ true) (sym (length-contents_of before)) fits.1

contents_split : (fs : List Entry) (k : ℕ)
    → contents_of fs ≡ contents_of (take k fs) ++ contents_of (drop k fs)
contents_split fs k =
    ap contents_of (sym (take-append-drop k fs)) ∙ contents_of-append (take k fs) (drop k fs)

-- so among formed frames it is read with all contents
pub pair_read : (fs : List Entry) (i k : ℕ) (d : Entry) (p : Pair) → all_formed [] fs ≡ true
    → HoldsPair fs i k d p → get_or (pairs_in fs) i p ≡ pair_in (contents_of fs) (get_or fs k d)
pair_read fs i k d p formed x =
    let e = get_or fs k d in
    let before = contents_of (take k fs) in
    let more = contents_of (drop k fs) in
    let form = formed_at fs k e formed (x.inside, get_or_default fs k d e x.inside) in
    x.is
    ∙ sym (pair_more before more e x.kind (value_of_form (take k fs) e form))
    ∙ ap (λ (l : List (List ℕ)). pair_in l e) (sym (contents_split fs k))
