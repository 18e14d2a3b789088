-- What a search by halves says of paths that ascend.
use Rattle.std.proofs.Common.{◌≡◌, ◌≢◌, ◌⊎◌, inl, inr, ℕ, zero, suc, ◌<◌, ◌≤◌, Bool, true, false, ◌||◌, List, [], ◌∷◌, length, get_or, map, Result, Ok, Err, is_ok, refl, sym, ap, ◌∙◌, subst, arith, eqb}
use Rattle.std.specs.List.{AllByRecursion}
use Rattle.std.specs.List.Sorted.{IsStrictlySortedBy, IsNonDecreasingBy, IsPartitionPoint, IsBinarySearchResult, IsSearchInRange}
use Rattle.std.specs.declared.cmp.Ordering.{Ordering}
use Rattle.std.specs.declared.cmp.Ordering.TheVariants.{Less, Equal, Greater}
use Rattle.std.specs.Ordering.{ordering_index, is_eq}
use Rattle.std.proofs.lemmas.Bool.{cases_lt}
use Rattle.std.proofs.lemmas.Bool.Decides.{eqb_tells}
use Rattle.rel_path.specs.Paths.{Path, path_cmp, path_eq, is_among}
use Rattle.rel_path.proofs.PathLaws.{path_cmp_total, path_cmp_self, path_other, path_same, path_self, path_ties}

path_tied : (p q : Path) → path_cmp p q ≡ Equal → p ≡ q
path_tied p q e = path_same p q (path_ties p q ∙ ap is_eq e)

unlike : (p q : Path) (o : Ordering) → path_cmp p q ≡ o → is_eq o ≡ false → path_eq p q ≡ false
unlike p q o e other = path_other p q (λ same.
    let self : path_cmp q q ≡ Equal = path_cmp_self q in
    let z : is_eq o ≡ true = ap is_eq (sym e ∙ ap (λ t. path_cmp t q) same ∙ self) in
    absurd (let w : false ≡ true = sym other ∙ z in cc))

index_le : (a b x : Path) → path_cmp a b ≡ Less
    → ordering_index (path_cmp a x) ≤ ordering_index (path_cmp b x)
index_le a b x less = by (path_cmp b x) refl where
  at_most : (r : Ordering) → ordering_index r ≤ 2
  at_most Less = omega arith
  at_most Equal = omega arith
  at_most Greater = omega arith

  by : (r : Ordering) → path_cmp b x ≡ r → ordering_index (path_cmp a x) ≤ ordering_index r
  by Less e = let below : path_cmp a x ≡ Less = path_cmp_total.trans a b x less e in rw below (omega arith)
  by Equal e =
      let below : path_cmp a x ≡ Less = subst (λ w. path_cmp a w ≡ Less) (path_tied b x e) less in
      rw below (omega arith)
  by Greater e = at_most (path_cmp a x)

module _ {X : Type 0} (key : X → Path) where
  all_at : (P : Path → Type 0) (xs : List X) → AllByRecursion P (map key xs)
      → (j : ℕ) (d : X) → j < length xs → P (key (get_or xs j d))
  all_at P [] all j d less = absurd (omega arith)
  all_at P (x ∷ xs) all zero d less = all.0
  all_at P (x ∷ xs) all (suc j) d less = all_at P xs all.1 j d (omega arith)

  -- paths further on are greater
  rises : (xs : List X) → IsStrictlySortedBy path_cmp (map key xs) → (i j : ℕ) (d : X) → i < j
      → j < length xs → path_cmp (key (get_or xs i d)) (key (get_or xs j d)) ≡ Less
  unfolding IsStrictlySortedBy
  rises [] up i j d before less = absurd (omega arith)
  rises (x ∷ xs) up i zero d before less = absurd (omega arith)
  rises (x ∷ xs) up zero (suc j) d before less =
      all_at (λ y. path_cmp (key x) y ≡ Less) xs up.0 j d (omega arith)
  rises (x ∷ xs) up (suc i) (suc j) d before less = rises xs up.1 i j d (omega arith) (omega arith)

  searchable : (path : Path) (xs : List X) → IsStrictlySortedBy path_cmp (map key xs)
      → IsNonDecreasingBy (λ y. ordering_index (path_cmp (key y) path)) xs
  searchable path xs up i j d le less = by (eqb_tells i j) where
    by : ((eqb i j ≡ true) × (i ≡ j)) ⊎ ((eqb i j ≡ false) × (i ≢ j))
        → ordering_index (path_cmp (key (get_or xs i d)) path)
        ≤ ordering_index (path_cmp (key (get_or xs j d)) path)
    by (inl same) = rw same.1 (omega arith)
    by (inr other) =
        let before : i < j = omega (arith, other.1) in
        index_le (key (get_or xs i d)) (key (get_or xs j d)) path (rises xs up i j d before less)

  among_at : (path : Path) (xs : List X) (i : ℕ) → i < length xs
      → ((d : X) → key (get_or xs i d) ≡ path) → is_among (map key xs) path ≡ true
  among_at path [] i lt is = absurd (omega (arith, lt))
  among_at path (x ∷ xs) zero lt is = rw (is x, path_self path) refl
  among_at path (x ∷ xs) (suc i) lt is =
      by (path_eq (key x) path) (among_at path xs i (omega (arith, lt)) is) where
        by : (b : Bool) → is_among (map key xs) path ≡ true → (b || is_among (map key xs) path) ≡ true
        by true e = refl
        by false e = e

  among_none : (path : Path) (xs : List X)
      → ((k : ℕ) (d : X) → k < length xs → path_eq (key (get_or xs k d)) path ≡ false)
      → is_among (map key xs) path ≡ false
  among_none path [] none = refl
  among_none path (x ∷ xs) none =
      rw (none 0 x (omega arith)) (among_none path xs (λ k d lt. none (suc k) d (omega (arith, lt))))

  -- a search finds a path that is among them, and no other
  pub sought : (path : Path) (xs : List X) (r : Result ℕ ℕ) → IsStrictlySortedBy path_cmp (map key xs)
      → IsSearchInRange r (length xs) → IsBinarySearchResult (λ y. path_cmp (key y) path) xs r
      → is_ok r ≡ is_among (map key xs) path
  sought path xs (Ok i) up bound at =
      sym (among_at path xs i bound (λ d. path_tied (key (get_or xs i d)) path (at d)))
  sought path xs (Err i) up bound at =
      sym (among_none path xs (λ k d lt. none k d lt (cases_lt k i))) where
        parts : IsPartitionPoint (λ y. path_cmp (key y) path ≡ Less)
            (λ y. path_cmp (key y) path ≡ Greater) xs i
        parts = at (searchable path xs up)

        none : (k : ℕ) (d : X) → k < length xs → (k < i) ⊎ (i ≤ k)
            → path_eq (key (get_or xs k d)) path ≡ false
        none k d lt (inl below) =
            unlike (key (get_or xs k d)) path Less (parts.0 k d (omega arith) below) refl
        none k d lt (inr past) = unlike (key (get_or xs k d)) path Greater (parts.1 k d past lt) refl

pub map_same : (paths : List Path) → map (λ p. p) paths ≡ paths
map_same [] = refl
map_same (p ∷ ps) = ap (λ rest. p ∷ rest) (map_same ps)
