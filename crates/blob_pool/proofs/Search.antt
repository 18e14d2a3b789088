-- The search for the first content that keeps the bytes, from the last one with their digest on.
use Rattle.std.proofs.Common.{◌≡◌, ◌≢◌, inl, inr, ℕ, zero, suc, ◌+◌, ◌-◌, ◌<◌, ◌≤◌, Bool, false, cond, List, [], length, map, get_or, drop, Option, Some, None, sym, ◌∙◌, ap, subst, arith}
use Rattle.std.specs.Prelude.{bytes_eq, ◌&&◌, slice_get, IfSome, IfNone}
use Rattle.std.proofs.lemmas.Bool.{cases_Bool}
use Rattle.std.proofs.lemmas.Slice.Eq.{bytes_eq-Decides}
use Rattle.std.proofs.lemmas.List.{drop_more, get_or-map, length-map}
use Rattle.std.proofs.lemmas.Option.{slice_get-get_or}
use Rattle.sha2.specs.Sha256.{sha256}
use Rattle.print_index.specs.Digests.{IsLastBelow, NoneBelow}
use Rattle.record_log.specs.Kinds.{Entry, entry, blobs_in}
use Rattle.blob_pool.specs.Contents.{content_at}
use Rattle.blob_pool.specs.Pool.{keeps, first_from, first_of}

-- how far the search has to go
abbrev pub left : Option ℕ → ℕ
left None = 0
left (Some number) = number + 1

-- Where the search is: the next number is the last below the limit that has the digest, and what was found is the first
-- that keeps the bytes from the limit on.
pub record IsSearched (tells : Type 0) (digests : List (List ℕ)) (fs : List Entry) (digest bytes : List ℕ) (next seen : Option ℕ) (limit : ℕ) : Type 0 where
  pub few : limit ≤ length digests
  pub some : IfSome next (IsLastBelow digests limit digest)
  pub none : IfNone next (NoneBelow digests limit digest)
  pub first : tells → seen ≡ first_from limit bytes (drop limit (blobs_in fs))

-- the next number is below the one before it
pub smaller : (digests : List (List ℕ)) (digest : List ℕ) (next last : Option ℕ) (number : ℕ)
    → last ≡ Some number → IfSome next (IsLastBelow digests number digest) → left next < left last
smaller digests digest None last number is below = omega (arith, ap left is)
smaller digests digest (Some k) last number is below = omega (arith, ap left is, below.below)

-- what is said of the value holds of the number that it is
pub of_some : (P : ℕ → Type 0) (o : Option ℕ) (number : ℕ) → o ≡ Some number → IfSome o P → P number
of_some P o number is holds = subst (λ (p : Option ℕ). IfSome p P) is holds

pub of_none : (P : Type 0) (o : Option ℕ) → o ≡ None → IfNone o P → P
of_none P o is holds = subst (λ (p : Option ℕ). IfNone p P) is holds

module _ (digests : List (List ℕ)) (fs : List Entry) (known : digests ≡ map (λ e. e.key) (blobs_in fs)) (digest bytes : List ℕ) (right : digest ≡ sha256 bytes) where
  abbrev bs : List Entry
  bs = blobs_in fs

  abbrev d : Entry
  d = entry 0 [] []

  long : length digests ≡ length bs
  long = ap length known ∙ length-map bs (λ (e : Entry). e.key)

  digest_is : (i : ℕ) → i < length bs → slice_get digests i ≡ Some (get_or bs i d).key
  digest_is i lt =
      slice_get-get_or digests i [] (omega (arith, long))
      ∙ ap (λ (l : List (List ℕ)). Some (get_or l i [])) known
      ∙ ap Some (get_or-map (λ (e : Entry). e.key) bs i d [] lt)

  -- one that has another digest does not keep the bytes
  other : (i : ℕ) → i < length bs → slice_get digests i ≢ Some digest
      → keeps bytes (get_or bs i d) ≡ false
  other i lt differs = elim (cases_Bool (bytes_eq (get_or bs i d).key (sha256 bytes))) [
    | inl same ↦ absurd (differs (digest_is i lt ∙ ap Some ((bytes_eq-Decides (get_or bs i d).key (sha256 bytes)).0 same ∙ sym right)))
    | inr bad ↦ ap (λ (b : Bool). b && bytes_eq (get_or bs i d).value bytes) bad
  ]

  skipped : (n a limit : ℕ) → a + n ≡ limit → limit ≤ length bs
      → ((i : ℕ) → a ≤ i → i < limit → slice_get digests i ≢ Some digest)
      → first_from a bytes (drop a bs) ≡ first_from limit bytes (drop limit bs)
  skipped zero a limit is le none =
      let same : a ≡ limit = omega (arith, is) in ap (λ (k : ℕ). first_from k bytes (drop k bs)) same
  skipped (suc n) a limit is le none =
      let lt : a < length bs = omega arith in
      ap (first_from a bytes) (drop_more bs a d lt)
      ∙ ap (λ (b : Bool). cond b (Some a) (first_from (a + 1) bytes (drop (a + 1) bs))) (other a lt (none a (omega arith) (omega arith)))
      ∙ skipped n (a + 1) limit (omega arith) le (λ i more less. none i (omega arith) less)

  passed : (limit number : ℕ) → limit ≤ length digests → IsLastBelow digests limit digest number
      → first_from (number + 1) bytes (drop (number + 1) bs) ≡ first_from limit bytes (drop limit bs)
  passed limit number le last =
      let below = last.below in
      skipped (limit - (number + 1)) (number + 1) limit (omega arith) (omega (arith, long)) (λ i after less. last.later i (omega arith) less)

  -- one step: at the last number with the digest
  pub looked : (limit number : ℕ) (seen : Option ℕ) (same : Bool) → limit ≤ length digests
      → IsLastBelow digests limit digest number
      → seen ≡ first_from limit bytes (drop limit bs) → same ≡ bytes_eq (content_at fs number) bytes
      → cond same (Some number) seen ≡ first_from number bytes (drop number bs)
  looked limit number seen same le last so_far is =
      let below = last.below in
      let lt : number < length bs = omega (arith, long) in
      let e = get_or bs number d in
      let key : e.key ≡ sha256 bytes = let it = sym (digest_is number lt) ∙ last.same in cc in
      let keep : keeps bytes e ≡ same =
      ap (λ (b : Bool). b && bytes_eq e.value bytes) ((bytes_eq-Decides e.key (sha256 bytes)).1 key)
      ∙ ap (λ (l : List ℕ). bytes_eq l bytes) (sym (get_or-map (λ (x : Entry). x.value) bs number d [] lt))
      ∙ sym is in
      sym (ap (first_from number bytes) (drop_more bs number d lt)
      ∙ (λ i. cond (keep i) (Some number) (first_from (number + 1) bytes (drop (number + 1) bs)))
      ∙ ap (cond same (Some number)) (passed limit number le last ∙ sym so_far))

  -- the end: no number is left that has the digest
  pub ended : (limit : ℕ) (seen : Option ℕ) → limit ≤ length digests
      → NoneBelow digests limit digest
      → seen ≡ first_from limit bytes (drop limit bs) → seen ≡ first_of fs bytes
  ended limit seen le none so_far =
      so_far
      ∙ sym (skipped limit 0 limit (omega arith) (omega (arith, long)) (λ i after less. none i less))
