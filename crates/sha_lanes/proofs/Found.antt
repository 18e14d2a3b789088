-- The digests that are found, text after text.
use Rattle.std.proofs.Common.{◌≡◌, ◌≢◌, ◌⊎◌, ℕ, suc, ◌+◌, ◌<◌, Bor, List, [], ◌∷◌, length, map, slice_index, slice_index_or, slice_set, refl, sym, ap, ap₂, subst, ◌∙◌, inl, inr, arith}
use Rattle.std.proofs.lemmas.Bool.{cases_lt}
use Rattle.std.proofs.lemmas.List.{get_or-map, get_or-set_other, get_or-set_same, length-map}
use Rattle.sha2.specs.Sha256.{sha256}
use Rattle.sha_lanes.specs.declared.lane.Lane.{Lane}
use Rattle.sha_lanes.specs.UnderWay.{HasDigests, IsFoundBut, IsLaneOf, IsUnderWay}

same_or_other : (k p : ℕ) → (k ≡ p) ⊎ (k ≢ p)
same_or_other k p = elim (cases_lt k p) [
  | inl below ↦ inr (omega arith)
  | inr above ↦ elim (cases_lt p k) [
    | inl beyond ↦ inr (omega arith)
    | inr within ↦ inl (omega arith)
  ]
]

-- a text that begins in a lane
pub started : (texts : List (Bor (List ℕ))) (l : Lane) (next : ℕ) (t : Bor (List ℕ)) → next < length texts → l.place ≡ next
    → IsUnderWay (slice_index_or texts next t).now l → IsLaneOf (map (λ text. text.now) texts) l
started texts l next t lt place under =
    let long = length-map texts (λ (text : Bor (List ℕ)). text.now) in
    let same : slice_index_or (map (λ text. text.now) texts) next [] ≡ (slice_index_or texts next t).now = get_or-map (λ text. text.now) texts next t [] lt in
    record {
      place = omega (arith, place, long);
      text = subst (λ p. IsUnderWay (slice_index_or (map (λ text. text.now) texts) p []) l) (sym place) (subst (λ x. IsUnderWay x l) (sym same) under);
    }

-- the digest of one text more
pub HasDigests_more : (texts found : List (List ℕ)) (n : ℕ) (digest : List ℕ) → HasDigests texts found n → n < length found
    → digest ≡ sha256 (slice_index_or texts n []) → HasDigests texts (slice_set found n digest) (n + 1)
HasDigests_more texts found n digest has fits is k lt = elim (same_or_other k n) [
  | inl same ↦ rw same (get_or-set_same found n digest [] fits ∙ is)
  | inr other ↦ get_or-set_other found n k digest [] other ∙ has k (omega arith)
]

-- the digest of the text in lane j, which takes the next text
pub IsFoundBut_taken : (texts found : List (List ℕ)) (places : List ℕ) (j next p : ℕ) (digest : List ℕ) → j < 4 → length places ≡ 4
    → IsFoundBut texts found places 0 next → slice_index places j ≡ p → p < length found → digest ≡ sha256 (slice_index_or texts p [])
    → IsFoundBut texts (slice_set found p digest) (slice_set places j next) 0 (next + 1)
IsFoundBut_taken texts found places j next p digest lt long has at fits is k below none = elim (same_or_other k p) [
  | inl same ↦ rw same (get_or-set_same found p digest [] fits ∙ is)
  | inr other ↦
      let here : slice_index (slice_set places j next) j ≡ next = get_or-set_same places j next 0 (omega arith) in
      let free : next ≢ k = λ e. none j (omega arith) lt (here ∙ e) in
      get_or-set_other found p k digest [] other ∙ has k (omega arith) (λ i low high. elim (same_or_other i j) [
        | inl is_j ↦ λ e. other (sym e ∙ ap (slice_index places) is_j ∙ at)
        | inr not_j ↦ λ e. none i low high (get_or-set_other places j i next 0 not_j ∙ e)
      ])
]

-- the digest of the text in lane j, which was still to be found
pub IsFoundBut_done : (texts found : List (List ℕ)) (places : List ℕ) (j n p : ℕ) (digest : List ℕ) → IsFoundBut texts found places j n
    → slice_index places j ≡ p → p < length found → digest ≡ sha256 (slice_index_or texts p [])
    → IsFoundBut texts (slice_set found p digest) places (j + 1) n
IsFoundBut_done texts found places j n p digest has at fits is k below none = elim (same_or_other k p) [
  | inl same ↦ rw same (get_or-set_same found p digest [] fits ∙ is)
  | inr other ↦ get_or-set_other found p k digest [] other ∙ has k below (λ i low high. elim (same_or_other i j) [
    | inl is_j ↦ λ e. other (sym e ∙ ap (slice_index places) is_j ∙ at)
    | inr not_j ↦ none i (omega arith) high
  ])
]

same_lists : (xs ys : List (List ℕ)) → length xs ≡ length ys → ((k : ℕ) → k < length xs → slice_index_or xs k [] ≡ slice_index_or ys k []) → xs ≡ ys
same_lists [] [] long same = refl
same_lists [] (y ∷ ys) long same = absurd (omega arith)
same_lists (x ∷ xs) [] long same = absurd (omega arith)
same_lists (x ∷ xs) (y ∷ ys) long same =
    ap₂ (λ (z : List ℕ) (zs : List (List ℕ)). z ∷ zs) (same 0 (omega arith)) (same_lists xs ys (omega arith) (λ k lt. same (suc k) (omega arith)))

-- all digests
pub HasDigests_all : (texts : List (Bor (List ℕ))) (found : List (List ℕ)) → length found ≡ length texts
    → HasDigests (map (λ text. text.now) texts) found (length texts) → found ≡ map (λ text. sha256 text.now) texts
HasDigests_all texts found long has =
    let lm = length-map texts (λ (text : Bor (List ℕ)). sha256 text.now) in
    let none : Bor (List ℕ) = record { ref_ptr = (0, 0); now = [] } in
    same_lists found (map (λ text. sha256 text.now) texts) (omega (arith, lm)) (λ k lt.
    has k (omega arith) ∙ ap sha256 (get_or-map (λ text. text.now) texts k none [] (omega arith))
    ∙ sym (get_or-map (λ text. sha256 text.now) texts k none [] (omega arith)))
