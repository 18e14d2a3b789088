-- The pairs of frames behind frames.
use Rattle.std.proofs.Common.{◌≡◌, ℕ, Bool, true, false, cond, List, [], ◌∷◌, ◌++◌, map, refl, sym, ◌∙◌, ap, append_assoc}
use Rattle.std.specs.Prelude.{◌==◌}
use Rattle.std.proofs.lemmas.Bool.{eqb-true}
use Rattle.std.proofs.lemmas.List.{append-nil}
use Rattle.cache_api.specs.Pairs.{Pair}
use Rattle.record_log.specs.declared.kind.TheConstants.{CONTENT}
use Rattle.record_log.specs.Kinds.{Entry, blobs_in}
use Rattle.blob_pool.specs.Contents.{contents_of}
use Rattle.pair_frames.specs.Pairs.{holds_pair, pair_in, pairs_from, pairs_in, HoldNoPair}

-- these contents and that of a frame
abbrev pub and_value : List (List ℕ) → Entry → List (List ℕ)
and_value contents f = contents ++ f.value ∷ []

-- the contents of a frame and those behind it, by whether it is a content
abbrev pub contents_by : Bool → Entry → List Entry → List (List ℕ)
contents_by content f fs =
    map (λ (e : Entry). e.value) (cond content (f ∷ blobs_in fs) (blobs_in fs))

-- The pairs of a frame and those behind it, by whether it is a content and whether it holds a pair:
-- `more` are those behind a content, and `rest` those behind another frame.
abbrev pub pairs_by : Bool → Bool → Pair → List Pair → List Pair → List Pair
pairs_by content pair p more rest = cond content more (cond pair (p ∷ rest) rest)

-- what frames stand for behind others is said by the contents of those
abbrev pub Joins : List (List ℕ) → List Entry → List Entry → Type 0
Joins contents fs gs =
    pairs_from contents (fs ++ gs)
    ≡ pairs_from contents fs ++ pairs_from (contents ++ contents_of fs) gs

joined_by : (content pair : Bool) (contents : List (List ℕ)) (f : Entry) (fs gs : List Entry)
    → Joins (and_value contents f) fs gs → Joins contents fs gs
    → pairs_by content pair (pair_in contents f)
    (pairs_from (and_value contents f) (fs ++ gs)) (pairs_from contents (fs ++ gs))
    ≡ pairs_by content pair (pair_in contents f)
    (pairs_from (and_value contents f) fs) (pairs_from contents fs)
    ++ pairs_from (contents ++ contents_by content f fs) gs
joined_by true pair contents f fs gs more rest =
    let front = pairs_from (and_value contents f) fs in
    more
    ∙ ap (λ (l : List (List ℕ)). front ++ pairs_from l gs)
    (append_assoc contents (f.value ∷ []) (contents_of fs))
joined_by false true contents f fs gs more rest =
    ap (λ (l : List Pair). pair_in contents f ∷ l) rest
joined_by false false contents f fs gs more rest = rest

pub pairs_from-append : (contents : List (List ℕ)) (fs gs : List Entry) → Joins contents fs gs
pairs_from-append contents [] gs =
    ap (λ (l : List (List ℕ)). pairs_from l gs) (sym (append-nil contents))
pairs_from-append contents (f ∷ fs) gs =
    joined_by (f.kind == CONTENT) (holds_pair f.kind) contents f fs gs
    (pairs_from-append (and_value contents f) fs gs) (pairs_from-append contents fs gs)

-- the pairs that there are stay as frames are added
pub pairs_in-append : (fs gs : List Entry)
    → pairs_in (fs ++ gs) ≡ pairs_in fs ++ pairs_from (contents_of fs) gs
unfolding pairs_in
pairs_in-append fs gs = pairs_from-append [] fs gs

-- ---- frames that hold no pair

none_by : (content pair : Bool) (p : Pair) (more rest : List Pair) → pair ≡ false → more ≡ []
    → rest ≡ [] → pairs_by content pair p more rest ≡ []
none_by true pair p more rest apart no_more no_rest = no_more
none_by false true p more rest apart no_more no_rest = absurd cc
none_by false false p more rest apart no_more no_rest = no_rest

pub pairs_from-none : (contents : List (List ℕ)) (fs : List Entry) → HoldNoPair fs
    → pairs_from contents fs ≡ []
pairs_from-none contents [] none = refl
pairs_from-none contents (f ∷ fs) none =
    none_by (f.kind == CONTENT) (holds_pair f.kind) (pair_in contents f)
    (pairs_from (and_value contents f) fs) (pairs_from contents fs) none.0
    (pairs_from-none (and_value contents f) fs none.1) (pairs_from-none contents fs none.1)

-- contents and generations add no pair, and change none
pub pairs_in-none : (fs gs : List Entry) → HoldNoPair gs → pairs_in (fs ++ gs) ≡ pairs_in fs
pairs_in-none fs gs none =
    pairs_in-append fs gs
    ∙ ap (λ (l : List Pair). pairs_in fs ++ l) (pairs_from-none (contents_of fs) gs none)
    ∙ append-nil (pairs_in fs)

-- ---- one frame that holds a pair

one_by : (content pair : Bool) (p : Pair) → (content ≡ true → pair ≡ false) → pair ≡ true
    → pairs_by content pair p [] [] ≡ p ∷ []
one_by content false p apart is = absurd cc
one_by true true p apart is = let other = apart refl in absurd cc
one_by false true p apart is = refl

pub content_apart : (f : Entry) → (f.kind == CONTENT) ≡ true → holds_pair f.kind ≡ false
content_apart f is = ap holds_pair (eqb-true f.kind CONTENT is)

pub pairs_from-one : (contents : List (List ℕ)) (f : Entry) → holds_pair f.kind ≡ true
    → pairs_from contents (f ∷ []) ≡ pair_in contents f ∷ []
pairs_from-one contents f is =
    one_by (f.kind == CONTENT) (holds_pair f.kind) (pair_in contents f) (content_apart f) is

-- it adds its pair behind the others
pub pairs_in-push : (fs : List Entry) (e : Entry) → holds_pair e.kind ≡ true
    → pairs_in (fs ++ e ∷ []) ≡ pairs_in fs ++ pair_in (contents_of fs) e ∷ []
pairs_in-push fs e is =
    pairs_in-append fs (e ∷ [])
    ∙ ap (λ (l : List Pair). pairs_in fs ++ l) (pairs_from-one (contents_of fs) e is)
