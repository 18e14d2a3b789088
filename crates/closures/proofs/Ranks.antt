-- The number of a place among ascending ones that are kept, and what stands at the kept places.
use Rattle.std.proofs.Common.{◌≡◌, ◌<◌, ◌≤◌, ◌==◌, ◌⊎◌, ℕ, zero, suc, true, false, cond, ltb, List, [], ◌∷◌, map, length, get_or, refl, sym, ap, ◌∙◌, arith, inl, inr}
use Rattle.std.specs.List.{AllByRecursion}
use Rattle.std.specs.List.Sorted.{IsStrictlySortedBy, IsPartitionedBy, IsPartitionPoint}
use Rattle.std.specs.Ordering.{nat_cmp}
use Rattle.std.specs.declared.cmp.Ordering.TheVariants.{Less}
use Rattle.std.proofs.lemmas.Bool.{cases_eq, eq-eqb, ne_eqb, ltb-true, ltb-false}
use Rattle.std.proofs.lemmas.Cmp.{ranked}
use Rattle.std.proofs.lemmas.List.{ext_get_or, length-map, get_or-map}
use Rattle.std.proofs.lemmas.List.Folds.{list_any_at}
use Rattle.std.proofs.lemmas.List.Sorted.{IsPartitionedBy-ltb}
use Rattle.std.proofs.lemmas.Map.Keys.{below_from_sorted, non_decreasing_from_sorted}
use Rattle.std.proofs.lemmas.Simd.{map-map}
use Rattle.listing.specs.declared.part.Listing.{Listing}
use Rattle.run_laws.specs.Ancestors.{part_at, blank}
use Rattle.run_laws.specs.Closures.{renumbered, sub_parts}
use Rattle.run_laws.specs.Picks.{pick, rank}
use Rattle.run_laws.proofs.PickFacts.{length-pick, get_or-pick}
use Rattle.run_core.proofs.Any.{any_none}
use Rattle.closures.specs.Places.{has, Ascend}

below : (a b : ℕ) → nat_cmp a b ≡ Less → a < b
below a b less = ranked a b Less (sym less)

new : (k : ℕ) (ks : List ℕ) → AllByRecursion (λ y. nat_cmp k y ≡ Less) ks → has ks k ≡ false
new k ks up = any_none (λ y. nat_cmp k y ≡ Less) (λ y. y == k) (λ y less. ne_eqb y k (let lt = below k y less in λ e. omega (arith, lt, e))) ks up

rank-none : (d : ℕ) → rank (has []) d ≡ 0
rank-none zero = refl
rank-none (suc d) = rank-none d

-- a place that is kept besides does not count below itself, and counts above
rank-same : (k : ℕ) (ks : List ℕ) (d : ℕ) → d ≤ k → rank (has (k ∷ ks)) d ≡ rank (has ks) d
rank-same k ks zero le = refl
rank-same k ks (suc d) le = rw (ne_eqb k d (λ e. omega (arith, le, e)), rank-same k ks d (omega (arith, le))) refl

rank-more : (k : ℕ) (ks : List ℕ) → has ks k ≡ false → (d : ℕ) → k < d → rank (has (k ∷ ks)) d ≡ suc (rank (has ks) d)
rank-more k ks out zero lt = absurd (omega (arith, lt))
rank-more k ks out (suc d) lt =
    elim (cases_eq k d) [
      | inl e ↦ let left : has ks d ≡ false = ap (has ks) (sym e) ∙ out in rw (eq-eqb k d e, left, rank-same k ks d (omega (arith, e))) refl
      | inr ne ↦
          let apart : (k == d) ≡ false = ne_eqb k d ne in
          rw (apart, rank-more k ks out d (omega (arith, lt, ne)))
          (elim (has ks d) as (λ b. cond b (suc (suc (rank (has ks) d))) (suc (rank (has ks) d)) ≡ suc (cond b (suc (rank (has ks) d)) (rank (has ks) d))) [ true ↦ refl | false ↦ refl ])
    ]

-- the number of a place is how many kept places stand below it
rank-at : (ks : List ℕ) (i d : ℕ) → Ascend ks → i ≤ length ks → ((j : ℕ) → j < i → get_or ks j 0 < d) → ((j : ℕ) → i ≤ j → j < length ks → d ≤ get_or ks j 0) → rank (has ks) d ≡ i
unfolding IsStrictlySortedBy
rank-at [] i d up le low high = rank-none d ∙ (omega (arith, le))
rank-at (k ∷ ks) zero d up le low high =
    rank-same k ks d (high 0 (omega arith) (omega arith))
    ∙ rank-at ks zero d up.1 (omega arith) (λ j lt. absurd (omega (arith, lt))) (λ j from lt. high (suc j) (omega arith) (omega (arith, lt)))
rank-at (k ∷ ks) (suc i) d up le low high =
    rank-more k ks (new k ks up.0) d (low 0 (omega arith))
    ∙ ap suc (rank-at ks i d up.1 (omega (arith, le)) (λ j lt. low (suc j) (omega (arith, lt))) (λ j from lt. high (suc j) (omega (arith, from)) (omega (arith, lt))))

-- which is where a search for the first that is not below it ends
pub rank-point : (ks : List ℕ) (i d : ℕ) → Ascend ks → i ≤ length ks → (IsPartitionedBy (λ k. ltb k d) ks → IsPartitionPoint (λ k. ltb k d ≡ true) (λ k. ltb k d ≡ false) ks i) → rank (has ks) d ≡ i
rank-point ks i d up le search_ends =
    let point = search_ends (IsPartitionedBy-ltb (λ k. k) ks d (non_decreasing_from_sorted ks up)) in
    rank-at ks i d up le (λ j lt. ltb-true (get_or ks j 0) d (point.0 j 0 (omega arith) lt)) (λ j from lt. ltb-false (get_or ks j 0) d (point.1 j 0 from lt))

-- what holds of each holds of the one at an index
each_of : (P : ℕ → Type 0) (xs : List ℕ) (i : ℕ) → i < length xs → AllByRecursion P xs → P (get_or xs i 0)
each_of P [] i lt all = absurd (omega (arith, lt))
each_of P (x ∷ xs) zero lt all = all.0
each_of P (x ∷ xs) (suc i) lt all = each_of P xs i (omega (arith, lt)) all.1

module _ {X : Type 0} (ks : List ℕ) (xs : List X) (d : X) (up : Ascend ks) (inner : AllByRecursion (λ k. k < length xs) ks) where
  same : length (pick (has ks) xs) ≡ length ks
  same = length-pick (has ks) xs ∙ rank-at ks (length ks) (length xs) up (omega arith) (λ j lt. each_of (λ k. k < length xs) ks j lt inner) (λ j from lt. absurd (omega (arith, from, lt)))

  number : (i : ℕ) → i < length ks → rank (has ks) (get_or ks i 0) ≡ i
  number i lt = rank-at ks i (get_or ks i 0) up (omega (arith, lt)) (λ j k. below_from_sorted ks j i 0 up k lt) (λ j from k. by j from k (cases_eq i j))
    where
      by : (j : ℕ) → i ≤ j → j < length ks → (i ≡ j) ⊎ (i ≡ j → ⊥) → get_or ks i 0 ≤ get_or ks j 0
      by j from k (inl e) = rw e (omega arith)
      by j from k (inr ne) = let less = below_from_sorted ks i j 0 up (omega (arith, from, ne)) k in omega (arith, less)

  here : (i : ℕ) → i < length ks → get_or (pick (has ks) xs) i d ≡ get_or xs (get_or ks i 0) d
  here i lt =
      let kept : has ks (get_or ks i 0) ≡ true = list_any_at (λ k. k == get_or ks i 0) ks i 0 lt (eq-eqb (get_or ks i 0) (get_or ks i 0) refl) in
      ap (λ n. get_or (pick (has ks) xs) n d) (sym (number i lt)) ∙ get_or-pick (has ks) xs (get_or ks i 0) d kept

  -- what is picked at ascending places is what stands there, in their order
  picked : pick (has ks) xs ≡ map (λ k. get_or xs k d) ks
  picked =
      ext_get_or d (pick (has ks) xs) (map (λ k. get_or xs k d) ks) (same ∙ sym (length-map ks (λ k. get_or xs k d)))
      (λ i lt. let k : i < length ks = omega (arith, lt, same) in here i k ∙ sym (get_or-map (λ k. get_or xs k d) ks i 0 d k))

-- the parts at ascending places are those that are kept
pub parts-are : (l : Listing) (ks : List ℕ) → Ascend ks → AllByRecursion (λ k. k < length l.parts) ks → map (λ k. renumbered (has ks) (part_at l k)) ks ≡ sub_parts l (has ks)
parts-are l ks up inner = sym (ap (map (renumbered (has ks))) (picked ks l.parts blank up inner) ∙ map-map (renumbered (has ks)) (λ k. part_at l k) ks)
