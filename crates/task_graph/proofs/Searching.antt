-- What a binary search says of a list that ascends.
use Rattle.std.proofs.Common.{◌≡◌, ◌≢◌, ◌⊎◌, inl, inr, ℕ, zero, suc, ◌<◌, ◌≤◌, Bool, true, false, List, [], ◌∷◌, length, get_or, map, refl, sym, ap, subst, arith, eqb, nat_lt}
use Rattle.std.specs.List.{AllByRecursion, list_any}
use Rattle.std.specs.List.Sorted.{IsStrictlySortedBy, IsNonDecreasingBy, IsPartitionPoint}
use Rattle.std.specs.declared.cmp.Ordering.{Ordering}
use Rattle.std.specs.declared.cmp.Ordering.TheVariants.{Less, Equal, Greater}
use Rattle.std.specs.Ordering.{ordering_index, is_eq}
use Rattle.std.specs.BTreeMap.{is_at}
use Rattle.std.specs.Cmp.{IsTotalOrder}
use Rattle.std.proofs.lemmas.Bool.{false≢true}
use Rattle.std.proofs.lemmas.Bool.Decides.{eqb_tells, nat_tests}
use Rattle.std.proofs.lemmas.Cmp.{tied_itself}
use Rattle.task_graph.proofs.Ids.{or_cases, or_left, or_right}

module _ {X K : Type 0} (key : X → K) (R : K → K → Ordering) (o : IsTotalOrder R) (one : (a b : K) → R a b ≡ Equal → a ≡ b) where
  index_le : (a b x : K) → R a b ≡ Less → ordering_index (R a x) ≤ ordering_index (R b x)
  index_le a b x less = by (R b x) refl where
    at_most : (r : Ordering) → ordering_index r ≤ 2
    at_most Less = omega arith
    at_most Equal = omega arith
    at_most Greater = omega arith

    by : (r : Ordering) → R b x ≡ r → ordering_index (R a x) ≤ ordering_index r
    by Less e = let below : R a x ≡ Less = o.trans a b x less e in rw below (omega arith)
    by Equal e = let below : R a x ≡ Less = subst (λ w. R a w ≡ Less) (one b x e) less in rw below (omega arith)
    by Greater e = at_most (R a x)

  all_at : (P : K → Type 0) (xs : List X) → AllByRecursion P (map key xs) → (j : ℕ) (d : X) → j < length xs → P (key (get_or xs j d))
  all_at P [] all j d less = absurd (omega arith)
  all_at P (x ∷ xs) all zero d less = all.0
  all_at P (x ∷ xs) all (suc j) d less = all_at P xs all.1 j d (omega arith)

  -- what stands further on is greater
  pub rises : (xs : List X) → IsStrictlySortedBy R (map key xs) → (i j : ℕ) (d : X) → i < j → j < length xs → R (key (get_or xs i d)) (key (get_or xs j d)) ≡ Less
  unfolding IsStrictlySortedBy
  rises [] up i j d before less = absurd (omega arith)
  rises (x ∷ xs) up i zero d before less = absurd (omega arith)
  rises (x ∷ xs) up zero (suc j) d before less = all_at (λ y. R (key x) y ≡ Less) xs up.0 j d (omega arith)
  rises (x ∷ xs) up (suc i) (suc j) d before less = rises xs up.1 i j d (omega arith) (omega arith)

  pub searchable : (x : K) (xs : List X) → IsStrictlySortedBy R (map key xs) → IsNonDecreasingBy (λ y. ordering_index (R (key y) x)) xs
  searchable x xs up i j d le less = by (eqb_tells i j) where
    by : ((eqb i j ≡ true) × (i ≡ j)) ⊎ ((eqb i j ≡ false) × (i ≢ j)) → ordering_index (R (key (get_or xs i d)) x) ≤ ordering_index (R (key (get_or xs j d)) x)
    by (inl same) = rw same.1 (omega arith)
    by (inr other) = let before : i < j = omega (arith, other.1) in index_le (key (get_or xs i d)) (key (get_or xs j d)) x (rises xs up i j d before less)

  -- what a search that finds none says
  pub none_at : (x : K) (xs : List X) (i : ℕ) → IsPartitionPoint (λ y. R (key y) x ≡ Less) (λ y. R (key y) x ≡ Greater) xs i → (k : ℕ) (d : X) → k < length xs → R (key (get_or xs k d)) x ≢ Equal
  none_at x xs i parts k d less tied = by (nat_lt k i) refl where
    by : (t : Bool) → nat_lt k i ≡ t → ⊥
    by true e = let below : R (key (get_or xs k d)) x ≡ Less = parts.0 k d (omega arith) (grind (arith, nat_tests, e)) in cc
    by false e = let above : R (key (get_or xs k d)) x ≡ Greater = parts.1 k d (grind (arith, nat_tests, e)) less in cc

  at_itself : (a : K) → is_at (R a) a ≡ true
  at_itself a = ap is_eq (tied_itself o a)

  is_one : (a b : K) → is_at (R a) b ≡ true → a ≡ b
  is_one a b e = by (R a b) refl e where
    by : (r : Ordering) → R a b ≡ r → is_eq r ≡ true → a ≡ b
    by Less tie e = absurd (false≢true e)
    by Equal tie e = one a b tie
    by Greater tie e = absurd (false≢true e)

  pub any_found : (x : K) (xs : List X) (i : ℕ) (d : X) → i < length xs → R (key (get_or xs i d)) x ≡ Equal → list_any (is_at (R x)) (map key xs) ≡ true
  any_found x [] i d less tied = absurd (omega arith)
  any_found x (y ∷ xs) zero d less tied = or_left (is_at (R x) (key y)) (list_any (is_at (R x)) (map key xs)) (subst (λ w. is_at (R x) w ≡ true) (sym (one (key y) x tied)) (at_itself x))
  any_found x (y ∷ xs) (suc i) d less tied = or_right (is_at (R x) (key y)) (list_any (is_at (R x)) (map key xs)) (any_found x xs i d (omega arith) tied)

  pub any_at : (x : K) (xs : List X) → list_any (is_at (R x)) (map key xs) ≡ true → (i : ℕ) × (i < length xs) × ((d : X) → R (key (get_or xs i d)) x ≡ Equal)
  any_at x [] is = absurd (false≢true is)
  any_at x (y ∷ xs) is = by (or_cases (is_at (R x) (key y)) (list_any (is_at (R x)) (map key xs)) is) (any_at x xs) where
    by : (is_at (R x) (key y) ≡ true) ⊎ (list_any (is_at (R x)) (map key xs) ≡ true) → (list_any (is_at (R x)) (map key xs) ≡ true → (i : ℕ) × (i < length xs) × ((d : X) → R (key (get_or xs i d)) x ≡ Equal)) → (i : ℕ) × (i < length (y ∷ xs)) × ((d : X) → R (key (get_or (y ∷ xs) i d)) x ≡ Equal)
    by (inl here) further = (0, omega arith, λ d. subst (λ w. R (key y) w ≡ Equal) (sym (is_one x (key y) here)) (tied_itself o (key y)))
    by (inr later) further = let found = further later in (suc found.0, omega (arith, found.1), found.2)

  not_apart : (x : K) (ys : List X) (i : ℕ) → i < length ys → ((d : X) → R (key (get_or ys i d)) x ≢ Equal) → ((d : X) → R (key (get_or ys i d)) x ≡ Equal) → ⊥
  not_apart x [] i less apart tied = omega arith
  not_apart x (y ∷ ys) i less apart tied = apart y (tied y)

  pub none_found : (x : K) (xs : List X) → ((k : ℕ) (d : X) → k < length xs → R (key (get_or xs k d)) x ≢ Equal) → list_any (is_at (R x)) (map key xs) ≡ false
  none_found x xs none = by (list_any (is_at (R x)) (map key xs)) refl where
    by : (t : Bool) → list_any (is_at (R x)) (map key xs) ≡ t → t ≡ false
    by true e = let found = any_at x xs e in absurd (not_apart x xs found.0 found.1 (λ d. none found.0 d found.1) found.2)
    by false e = refl
