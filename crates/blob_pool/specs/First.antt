-- The first frame that keeps the bytes.
use Rattle.std.proofs.Common.{◌≡◌, ℕ, suc, ◌+◌, ◌<◌, Bool, true, false, cond, List, [], ◌∷◌, ◌++◌, length, get_or, Option, Some, None, refl, sym, ◌∙◌, ap, arith}
use Rattle.std.specs.Prelude.{bytes_eq}
use Rattle.std.proofs.lemmas.Bool.{and_parts, and_from}
use Rattle.std.proofs.lemmas.Slice.Eq.{bytes_eq-Decides}
use Rattle.std.proofs.lemmas.List.{get_or-map}
use Rattle.sha2.specs.Sha256.{sha256}
use Rattle.record_log.specs.Kinds.{Entry, entry, blobs_in}
use Rattle.record_log.specs.Texts.{blobs_in_append}
use Rattle.blob_pool.specs.Contents.{contents_of, content_at}
use Rattle.blob_pool.specs.Pool.{keeps, first_from, first_of, blob, missing, unless_found, found_in_parts}
use Rattle.blob_pool.specs.Blobs.{length-contents_of}

pub keeps_itself : (bytes : List ℕ) → keeps bytes (blob bytes) ≡ true
keeps_itself bytes =
    and_from _ _ ((bytes_eq-Decides (sha256 bytes) (sha256 bytes)).1 refl) ((bytes_eq-Decides bytes bytes).1 refl)

-- ---- two parts

found_later : (b : Bool) (m n : ℕ) (r s : Option ℕ) → r ≡ found_in_parts None m s
    → cond b (Some (m + n)) r ≡ found_in_parts None m (cond b (Some n) s)
found_later true m n r s is = refl
found_later false m n r s is = is

first_from-later : (m n : ℕ) (bytes : List ℕ) (es : List Entry)
    → first_from (m + n) bytes es ≡ found_in_parts None m (first_from n bytes es)
first_from-later m n bytes [] = refl
first_from-later m n bytes (e ∷ es) =
    found_later (keeps bytes e) m n (first_from (m + n + 1) bytes es) (first_from (n + 1) bytes es)
    (ap (λ (k : ℕ). first_from k bytes es) (omega arith) ∙ first_from-later m (n + 1) bytes es)

found_here : (b : Bool) (n m : ℕ) (r s t : Option ℕ) → r ≡ found_in_parts s m t
    → cond b (Some n) r ≡ found_in_parts (cond b (Some n) s) m t
found_here true n m r s t is = refl
found_here false n m r s t is = is

first_from-append : (n : ℕ) (bytes : List ℕ) (xs ys : List Entry)
    → first_from n bytes (xs ++ ys) ≡ found_in_parts (first_from n bytes xs) (n + length xs) (first_from 0 bytes ys)
first_from-append n bytes [] ys =
    ap (λ (k : ℕ). first_from k bytes ys) (omega arith)
    ∙ first_from-later (n + 0) 0 bytes ys
first_from-append n bytes (x ∷ xs) ys =
    found_here (keeps bytes x) n (n + suc (length xs)) (first_from (n + 1) bytes (xs ++ ys)) (first_from (n + 1) bytes xs) (first_from 0 bytes ys)
    (first_from-append (n + 1) bytes xs ys ∙ ap (λ (k : ℕ). found_in_parts (first_from (n + 1) bytes xs) k (first_from 0 bytes ys)) (omega arith))

pub first_split : (fs gs : List Entry) (bytes : List ℕ)
    → first_of (fs ++ gs) bytes ≡ found_in_parts (first_of fs bytes) (length (contents_of fs)) (first_of gs bytes)
first_split fs gs bytes =
    ap (first_from 0 bytes) (blobs_in_append fs gs)
    ∙ first_from-append 0 bytes (blobs_in fs) (blobs_in gs)
    ∙ ap (λ (k : ℕ). found_in_parts (first_of fs bytes) k (first_of gs bytes)) (omega (arith, length-contents_of fs))

-- the first keeper stays the first behind which others come
pub first_stays : (fs gs : List Entry) (bytes : List ℕ) (k : ℕ) → first_of fs bytes ≡ Some k
    → first_of (fs ++ gs) bytes ≡ Some k
first_stays fs gs bytes k is =
    first_split fs gs bytes
    ∙ ap (λ (o : Option ℕ). found_in_parts o (length (contents_of fs)) (first_of gs bytes)) is

-- ---- one content more

pub missing_some : (fs : List Entry) (bytes : List ℕ) (k : ℕ) → first_of fs bytes ≡ Some k
    → missing fs bytes ≡ []
missing_some fs bytes k is = ap (λ (o : Option ℕ). unless_found o bytes) is

pub missing_none : (fs : List Entry) (bytes : List ℕ) → first_of fs bytes ≡ None
    → missing fs bytes ≡ blob bytes ∷ []
missing_none fs bytes none = ap (λ (o : Option ℕ). unless_found o bytes) none

-- bytes that were missing have the next number
pub first_push : (fs : List Entry) (bytes : List ℕ) → first_of fs bytes ≡ None
    → first_of (fs ++ missing fs bytes) bytes ≡ Some (length (contents_of fs))
first_push fs bytes none =
    ap (λ (l : List Entry). first_of (fs ++ l) bytes) (missing_none fs bytes none)
    ∙ first_split fs (blob bytes ∷ []) bytes
    ∙ (λ i. found_in_parts (none i) (length (contents_of fs)) (cond (keeps_itself bytes i) (Some 0) None))
    ∙ ap (λ (k : ℕ). Some k) (omega arith)

-- bytes are kept once what was missing stands
pub kept_after : (fs : List Entry) (bytes : List ℕ)
    → (k : ℕ) × (first_of (fs ++ missing fs bytes) bytes ≡ Some k)
kept_after fs bytes = by (first_of fs bytes) refl
  where
    by : (o : Option ℕ) → first_of fs bytes ≡ o → (k : ℕ) × (first_of (fs ++ missing fs bytes) bytes ≡ Some k)
    by None none = (length (contents_of fs), first_push fs bytes none)
    by (Some k) is = (k, first_stays fs (missing fs bytes) bytes k is)

-- ---- what was found

-- the frame with that number keeps the bytes, where the first has the number n
record IsKeeper (n : ℕ) (bytes : List ℕ) (es : List Entry) (k : ℕ) (d : Entry) (i : ℕ) : Type 0 where
  at : k ≡ n + i
  inside : i < length es
  keeper : keeps bytes (get_or es i d) ≡ true

keeper_by : (b : Bool) (n : ℕ) (bytes : List ℕ) (e : Entry) (es : List Entry) (k : ℕ) (d : Entry) (r : Option ℕ)
    → keeps bytes e ≡ b
    → (r ≡ Some k → (i : ℕ) × IsKeeper (n + 1) bytes es k d i) → cond b (Some n) r ≡ Some k
    → (i : ℕ) × IsKeeper n bytes (e ∷ es) k d i
keeper_by true n bytes e es k d r good later found =
    (0, record { at = let same : n ≡ k = cc in omega (arith, same); inside = omega arith; keeper = good })
keeper_by false n bytes e es k d r bad later found =
    let (i, x) = later found in
    (suc i, record { at = omega (arith, x.at); inside = omega (arith, x.inside); keeper = x.keeper })

keeper : (n : ℕ) (bytes : List ℕ) (es : List Entry) (k : ℕ) (d : Entry)
    → first_from n bytes es ≡ Some k → (i : ℕ) × IsKeeper n bytes es k d i
keeper n bytes [] k d found = absurd cc
keeper n bytes (e ∷ es) k d found =
    keeper_by (keeps bytes e) n bytes e es k d (first_from (n + 1) bytes es) refl (keeper (n + 1) bytes es k d) found

-- it is the bytes, and one of the contents
pub first_is : (fs : List Entry) (bytes : List ℕ) (k : ℕ) → first_of fs bytes ≡ Some k
    → (content_at fs k ≡ bytes) × (k < length (contents_of fs))
first_is fs bytes k found =
    let d = entry 0 [] [] in
    let (i, x) = keeper 0 bytes (blobs_in fs) k d found in
    let same : i ≡ k = omega (arith, x.at) in
    let there = get_or (blobs_in fs) i d in
    let value : there.value ≡ bytes = (bytes_eq-Decides there.value bytes).0 (and_parts (bytes_eq there.key (sha256 bytes)) (bytes_eq there.value bytes) x.keeper).1 in (
      sym (ap (content_at fs) same)
          ∙ get_or-map (λ (e : Entry). e.value) (blobs_in fs) i d [] x.inside
          ∙ value,
      omega (arith, x.inside, length-contents_of fs),
    )
