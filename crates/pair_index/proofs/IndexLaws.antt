-- The index of frames, as frames are added.
use Rattle.std.proofs.Common.{◌≡◌, inl, inr, ℕ, zero, suc, ◌+◌, ◌-◌, ◌<◌, ◌≤◌, Bool, true, false, cond, List, [], ◌∷◌, ◌++◌, length, take, drop, get_or, refl, sym, ◌∙◌, ap, subst, arith, length-append, take-append-drop}
use Rattle.std.proofs.lemmas.Bool.{and_parts, cases_lt}
use Rattle.std.proofs.lemmas.List.{map-append, take_more, length-map, length-take-le, get_or_default, get_or_append_left, get_or-append_right}
use Rattle.record_log.specs.Kinds.{Entry, value_fits, form, blobs, has_form}
use Rattle.record_log.specs.Frames.{all_formed, IsAt}
use Rattle.record_log.specs.Texts.{formed_at}
use Rattle.blob_pool.specs.Contents.{contents_of}
use Rattle.blob_pool.specs.Blobs.{contents_of-append, length-contents_of}
use Rattle.pair_frames.specs.Pairs.{holds_pair, pair_in, pairs_in}
use Rattle.pair_frames.specs.Joins.{pairs_in-none}
use Rattle.pair_frames.specs.Reading.{record_places, record_places-push, record_places-same, pair_more}
use Rattle.pair_writer.specs.declared.frame.StagedFrame.{StagedFrame}
use Rattle.pair_writer.specs.Held.{staged_entry, staged_entries}
use Rattle.pair_index.specs.declared.index.Index.{Index}
use Rattle.pair_index.specs.Keys.{IsKeysOf}
use Rattle.pair_index.specs.Index.{frames_in, IsIndexOf, FramesBelow}

pub pairs_none : pairs_in [] ≡ []
unfolding pairs_in
pairs_none = refl

-- ---- one frame more

-- a frame that holds no pair
pub index_same : (index : Index) (fs : List Entry) (e : Entry) → IsIndexOf index fs
    → holds_pair e.kind ≡ false → IsIndexOf index (fs ++ e ∷ [])
index_same index fs e x other = record {
  frames = x.frames ∙ sym (record_places-same 0 fs e other);
  keys = subst (IsKeysOf index.keys) (sym (pairs_in-none fs (e ∷ []) (other, tt))) x.keys;
}

value_of_form : (before : List Entry) (e : Entry) → has_form before e ≡ true
    → value_fits (length (contents_of before)) e.kind e.value ≡ true
unfolding has_form form blobs
value_of_form before e formed =
    let fits = and_parts _ _ (and_parts _ _ formed).0 in
    subst (λ (n : ℕ). value_fits n e.kind e.value ≡ true) (sym (length-contents_of before)) fits.1

-- a pair reads the same with the contents before it and with all of them
pub pair_early : (fs : List Entry) (k : ℕ) (d : Entry) → all_formed [] fs ≡ true → k < length fs
    → holds_pair (get_or fs k d).kind ≡ true
    → pair_in (contents_of fs) (get_or fs k d) ≡ pair_in (contents_of (take k fs)) (get_or fs k d)
pair_early fs k d formed inside holds =
    let e = get_or fs k d in
    let before = contents_of (take k fs) in
    let form = formed_at fs k e formed (inside, get_or_default fs k d e inside) in
    let split : contents_of fs ≡ before ++ contents_of (drop k fs) =
    ap contents_of (sym (take-append-drop k fs)) ∙ contents_of-append (take k fs) (drop k fs) in
    ap (λ (l : List (List ℕ)). pair_in l e) split
    ∙ pair_more before (contents_of (drop k fs)) e holds (value_of_form (take k fs) e form)

pub entry_at : (fs : List Entry) (n : ℕ) (d : Entry) → n < length fs → IsAt fs n (get_or fs n d)
entry_at fs n d lt = (lt, get_or_default fs n d (get_or fs n d) lt)

-- frames up to a number, and one more
pub next_frame : (fs : List Entry) (n : ℕ) (d : Entry) → n < length fs
    → take (n + 1) fs ≡ take n fs ++ get_or fs n d ∷ []
next_frame fs n d lt = take_more fs n d lt

-- ---- frames that were put

frames_next : (frames : List StagedFrame) (k : ℕ) (f : StagedFrame) → k < length frames
    → f ≡ get_or frames k f
    → staged_entries (take (k + 1) frames) ≡ staged_entries (take k frames) ++ staged_entry f ∷ []
frames_next frames k f lt is =
    ap staged_entries (take_more frames k f lt)
    ∙ map-append staged_entry (take k frames) (get_or frames k f ∷ [])
    ∙ ap (λ (x : StagedFrame). staged_entries (take k frames) ++ staged_entry x ∷ []) (sym is)

many : (frames : List StagedFrame) (k : ℕ) → k < length frames
    → length (staged_entries (take k frames)) ≡ k
many frames k lt =
    length-map (take k frames) staged_entry ∙ length-take-le k frames (omega (arith, lt))

pub places_record : (first : ℕ) (frames : List StagedFrame) (k : ℕ) (f : StagedFrame)
    → k < length frames → f ≡ get_or frames k f → holds_pair (staged_entry f).kind ≡ true
    → record_places first (staged_entries (take (k + 1) frames))
    ≡ record_places first (staged_entries (take k frames)) ++ (first + k) ∷ []
places_record first frames k f lt is holds =
    ap (record_places first) (frames_next frames k f lt is)
    ∙ record_places-push first (staged_entries (take k frames)) (staged_entry f) holds
    ∙ ap (λ (n : ℕ). record_places first (staged_entries (take k frames)) ++ (first + n) ∷ []) (many frames k lt)

pub places_other : (first : ℕ) (frames : List StagedFrame) (k : ℕ) (f : StagedFrame)
    → k < length frames → f ≡ get_or frames k f → holds_pair (staged_entry f).kind ≡ false
    → record_places first (staged_entries (take (k + 1) frames))
    ≡ record_places first (staged_entries (take k frames))
places_other first frames k f lt is other =
    ap (record_places first) (frames_next frames k f lt is)
    ∙ record_places-same first (staged_entries (take k frames)) (staged_entry f) other

-- ---- numbers that are below others

abbrev pub Below : List ℕ → ℕ → Type 0
Below xs n = (i : ℕ) → i < length xs → get_or xs i 0 < n

pub below_cons : (x : ℕ) (xs : List ℕ) (n : ℕ) → x < n → Below xs n → Below (x ∷ xs) n
below_cons x xs n lt all zero inside = lt
below_cons x xs n lt all (suc i) inside = all i (omega (arith, inside))

below_by : (holds : Bool) (x : ℕ) (xs : List ℕ) (n : ℕ) → x < n → Below xs n
    → Below (cond holds (x ∷ xs) xs) n
below_by true x xs n lt all = below_cons x xs n lt all
below_by false x xs n lt all = all

places_below : (first : ℕ) (es : List Entry) (n : ℕ) → first + length es ≤ n
    → Below (record_places first es) n
places_below first [] n le = λ i lt. absurd (omega arith)
places_below first (e ∷ es) n le =
    below_by (holds_pair e.kind) first (record_places (first + 1) es) n (omega (arith, le))
    (places_below (first + 1) es n (omega (arith, le)))

pub below_both : (xs ys : List ℕ) (n m : ℕ) → Below xs n → Below ys m → n ≤ m → Below (xs ++ ys) m
below_both xs ys n m first second le i lt = elim (cases_lt i (length xs)) [
  | inl less ↦
      let same = get_or_append_left xs ys 0 i less in omega (arith, first i less, same)
  | inr past ↦
      let k : ℕ = i - length xs in
      let same = get_or-append_right xs ys (length xs) i 0 refl past in
      omega (arith, same, second k (omega (arith, lt, length-append xs ys)))
]

pub below_more : (old new : Index) (first : ℕ) (es : List Entry)
    → frames_in new ≡ frames_in old ++ record_places first es → FramesBelow old first
    → FramesBelow new (first + length es)
below_more old new first es is below =
    subst (λ (l : List ℕ). Below l (first + length es)) (sym is)
    (below_both (frames_in old) (record_places first es) first (first + length es) below
    (places_below first es (first + length es) (omega arith)) (omega arith))
