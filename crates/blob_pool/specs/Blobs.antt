-- The contents of frames and their places, where frames are joined, and what stands at a place.
use Rattle.std.proofs.Common.{◌≡◌, ◌≢◌, ℕ, zero, suc, ◌+◌, ◌<◌, Bool, true, false, cond, List, [], ◌∷◌, ◌++◌, length, map, get_or, refl, sym, ◌∙◌, ap, subst, arith}
use Rattle.std.specs.Prelude.{◌==◌}
use Rattle.std.proofs.lemmas.Bool.{eqb-true, eq-eqb, ne_eqb}
use Rattle.std.proofs.lemmas.List.{append-nil, map-append, length-map, get_or-map}
use Rattle.record_log.specs.declared.kind.TheConstants.{CONTENT}
use Rattle.record_log.specs.Kinds.{Entry, blobs_in}
use Rattle.record_log.specs.Texts.{blobs_in_append}
use Rattle.blob_pool.specs.Contents.{contents_of, content_at, places_from}

joined_by : {A : Type 0} (b : Bool) (x : A) (l r m : List A) → l ≡ r ++ m
    → cond b (x ∷ l) l ≡ cond b (x ∷ r) r ++ m
joined_by true x l r m is = ap (λ y. x ∷ y) is
joined_by false x l r m is = is

-- ---- frames that are joined

pub contents_of-append : (fs gs : List Entry)
    → contents_of (fs ++ gs) ≡ contents_of fs ++ contents_of gs
contents_of-append fs gs =
    ap (map (λ (e : Entry). e.value)) (blobs_in_append fs gs)
    ∙ map-append (λ (e : Entry). e.value) (blobs_in fs) (blobs_in gs)

pub places_from-append : (n : ℕ) (fs gs : List Entry)
    → places_from n (fs ++ gs) ≡ places_from n fs ++ places_from (n + length fs) gs
places_from-append n [] gs = ap (λ (k : ℕ). places_from k gs) (omega arith)
places_from-append n (f ∷ fs) gs =
    joined_by (f.kind == CONTENT) n (places_from (n + 1) (fs ++ gs)) (places_from (n + 1) fs) (places_from (n + suc (length fs)) gs)
    (places_from-append (n + 1) fs gs ∙ ap (λ (k : ℕ). places_from (n + 1) fs ++ places_from k gs) (omega arith))

-- ---- one frame more, of kind 2 or of another

pub blobs_in-one : (e : Entry) → e.kind ≡ CONTENT → blobs_in (e ∷ []) ≡ e ∷ []
blobs_in-one e is = ap (λ (b : Bool). cond b (e ∷ []) []) (eq-eqb _ _ is)

pub blobs_in-other : (e : Entry) → e.kind ≢ CONTENT → blobs_in (e ∷ []) ≡ []
blobs_in-other e other = ap (λ (b : Bool). cond b (e ∷ []) []) (ne_eqb _ _ other)

pub blobs_in-push : (fs : List Entry) (e : Entry) → e.kind ≡ CONTENT
    → blobs_in (fs ++ e ∷ []) ≡ blobs_in fs ++ e ∷ []
blobs_in-push fs e is =
    blobs_in_append fs (e ∷ [])
    ∙ ap (λ (l : List Entry). blobs_in fs ++ l) (blobs_in-one e is)

pub blobs_in-same : (fs : List Entry) (e : Entry) → e.kind ≢ CONTENT
    → blobs_in (fs ++ e ∷ []) ≡ blobs_in fs
blobs_in-same fs e other =
    blobs_in_append fs (e ∷ [])
    ∙ ap (λ (l : List Entry). blobs_in fs ++ l) (blobs_in-other e other)
    ∙ append-nil (blobs_in fs)

pub contents_of-push : (fs : List Entry) (e : Entry) → e.kind ≡ CONTENT
    → contents_of (fs ++ e ∷ []) ≡ contents_of fs ++ e.value ∷ []
contents_of-push fs e is =
    contents_of-append fs (e ∷ [])
    ∙ ap (λ (l : List Entry). contents_of fs ++ map (λ (x : Entry). x.value) l) (blobs_in-one e is)

pub contents_of-same : (fs : List Entry) (e : Entry) → e.kind ≢ CONTENT
    → contents_of (fs ++ e ∷ []) ≡ contents_of fs
contents_of-same fs e other = ap (map (λ (x : Entry). x.value)) (blobs_in-same fs e other)

pub places_from-push : (n : ℕ) (fs : List Entry) (e : Entry) → e.kind ≡ CONTENT
    → places_from n (fs ++ e ∷ []) ≡ places_from n fs ++ (n + length fs) ∷ []
places_from-push n fs e is =
    places_from-append n fs (e ∷ [])
    ∙ ap (λ (b : Bool). places_from n fs ++ cond b ((n + length fs) ∷ []) []) (eq-eqb _ _ is)

pub places_from-same : (n : ℕ) (fs : List Entry) (e : Entry) → e.kind ≢ CONTENT
    → places_from n (fs ++ e ∷ []) ≡ places_from n fs
places_from-same n fs e other =
    places_from-append n fs (e ∷ [])
    ∙ ap (λ (b : Bool). places_from n fs ++ cond b ((n + length fs) ∷ []) []) (ne_eqb _ _ other)
    ∙ append-nil (places_from n fs)

-- ---- how many there are

pub length-contents_of : (fs : List Entry) → length (contents_of fs) ≡ length (blobs_in fs)
length-contents_of fs = length-map (blobs_in fs) (λ (e : Entry). e.value)

long_by : {A B : Type 0} (b : Bool) (x : A) (y : B) (l : List A) (r : List B) → length l ≡ length r
    → length (cond b (x ∷ l) l) ≡ length (cond b (y ∷ r) r)
long_by true x y l r is = ap suc is
long_by false x y l r is = is

pub length-places_from : (n : ℕ) (fs : List Entry)
    → length (places_from n fs) ≡ length (blobs_in fs)
length-places_from n [] = refl
length-places_from n (f ∷ fs) =
    long_by (f.kind == CONTENT) n f (places_from (n + 1) fs) (blobs_in fs) (length-places_from (n + 1) fs)

-- ---- what stands at a place

-- the frame with that number is of kind 2, and is that one among those of kind 2
pub record StandsAt (fs : List Entry) (i k : ℕ) (d : Entry) : Type 0 where
  pub inside : k < length fs
  pub kind : (get_or fs k d).kind ≡ CONTENT
  pub is : get_or fs k d ≡ get_or (blobs_in fs) i d

-- the same behind a frame more, by the numbers that the frames have
record Stands (places : List ℕ) (fs blobs : List Entry) (n i k : ℕ) (d : Entry) : Type 0 where
  place : get_or places i 0 ≡ n + k
  inside : k < length fs
  kind : (get_or fs k d).kind ≡ CONTENT
  is : get_or fs k d ≡ get_or blobs i d

behind : (places ps : List ℕ) (fs blobs bs : List Entry) (f : Entry) (n i j : ℕ) (d : Entry)
    → get_or ps j 0 ≡ get_or places i 0 → get_or bs j d ≡ get_or blobs i d
    → (k : ℕ) × Stands places fs blobs (n + 1) i k d → (k : ℕ) × Stands ps (f ∷ fs) bs n j k d
behind places ps fs blobs bs f n i j d p b (k, x) =
    (suc k, record { place = p ∙ x.place ∙ omega arith; inside = omega (arith, x.inside); kind = x.kind; is = x.is ∙ sym b })

stands_by : (b : Bool) (fs : List Entry) (f : Entry) (n i : ℕ) (d : Entry)
    → (b ≡ true → f.kind ≡ CONTENT)
    → ((m : ℕ) → m < length (blobs_in fs) → (k : ℕ) × Stands (places_from (n + 1) fs) fs (blobs_in fs) (n + 1) m k d)
    → i < length (cond b (f ∷ blobs_in fs) (blobs_in fs))
    → (k : ℕ) × Stands (cond b (n ∷ places_from (n + 1) fs) (places_from (n + 1) fs)) (f ∷ fs) (cond b (f ∷ blobs_in fs) (blobs_in fs)) n i k d
stands_by true fs f n zero d kind more lt =
    (0, record { place = omega arith; inside = omega arith; kind = kind refl; is = refl })
stands_by true fs f n (suc i) d kind more lt =
    behind (places_from (n + 1) fs) _ fs (blobs_in fs) _ f n i (suc i) d refl refl (more i (omega arith))
stands_by false fs f n i d kind more lt =
    behind (places_from (n + 1) fs) _ fs (blobs_in fs) _ f n i i d refl refl (more i lt)

stands : (fs : List Entry) (n i : ℕ) (d : Entry) → i < length (blobs_in fs)
    → (k : ℕ) × Stands (places_from n fs) fs (blobs_in fs) n i k d
stands [] n i d lt = absurd (omega arith)
stands (f ∷ fs) n i d lt =
    stands_by (f.kind == CONTENT) fs f n i d (eqb-true f.kind CONTENT) (λ m less. stands fs (n + 1) m d less) lt

pub place_of : (fs : List Entry) (i : ℕ) (d : Entry) → i < length (contents_of fs)
    → StandsAt fs i (get_or (places_from 0 fs) i 0) d
place_of fs i d lt =
    let (k, x) = stands fs 0 i d (omega (arith, length-contents_of fs)) in
    let at : k ≡ get_or (places_from 0 fs) i 0 = omega (arith, x.place) in
    subst (λ (n : ℕ). StandsAt fs i n d) at (record { inside = x.inside; kind = x.kind; is = x.is })

-- and its value is that content
pub content_of : (fs : List Entry) (i k : ℕ) (d : Entry) → i < length (contents_of fs)
    → StandsAt fs i k d → (get_or fs k d).value ≡ content_at fs i
content_of fs i k d lt x =
    ap (λ (e : Entry). e.value) x.is
    ∙ sym (get_or-map (λ (e : Entry). e.value) (blobs_in fs) i d [] (omega (arith, length-contents_of fs)))
