-- Lists in ascending order.
use Rattle.std.proofs.Common.{◌≡◌, ◌⊎◌, inl, inr, zero, suc, Bool, true, List, [], ◌∷◌, refl, sym, ap, ◌∙◌, subst, arith}
use Rattle.std.specs.List.{AllByRecursion, Contains, dedup}
use Rattle.std.specs.List.Sorted.{IsStrictlySortedBy, IsSorted, IsPermutation}
use Rattle.std.specs.declared.cmp.Ordering.{Ordering}
use Rattle.std.specs.declared.cmp.Ordering.TheVariants.{Less, Equal, Greater}
use Rattle.std.specs.Ordering.{match_ordering, ordering_reverse, eq_by_cmp, is_eq}
use Rattle.std.specs.Cmp.{IsTotalOrder, IsEquivalence}
use Rattle.std.proofs.lemmas.List.Kept.{Contains-dedup, Contains-from_dedup, IsStrictlySortedBy-dedup}
use Rattle.std.proofs.lemmas.List.Sorted.{Contains-permutation, IsPermutation-sym}
use Rattle.workspaces.specs.Lists.{put_in, ascending, Has}

pub Has-from : {X : Type 0} (xs : List X) (x : X) → Contains xs x → Has xs x
Has-from [] x (k, less, at) = absurd (omega arith)
Has-from (y ∷ ys) x (zero, less, at) = inl at
Has-from (y ∷ ys) x (suc k, less, at) = inr (Has-from ys x (k, omega arith, at))

pub Contains-from : {X : Type 0} (xs : List X) (x : X) → Has xs x → Contains xs x
Contains-from [] x has = absurd has
Contains-from (y ∷ ys) x (inl here) = (0, omega arith, here)
Contains-from (y ∷ ys) x (inr later) = let c = Contains-from ys x later in (suc c.0, omega (arith, c.1), c.2)

pub all_has : {X : Type 0} (P : X → Type 0) (xs : List X) (x : X) → AllByRecursion P xs → Has xs x → P x
all_has P [] x all has = absurd has
all_has P (y ∷ ys) x all (inl here) = subst P here all.0
all_has P (y ∷ ys) x all (inr later) = all_has P ys x all.1 later

pub all_from : {X : Type 0} (P : X → Type 0) (xs : List X) → ((x : X) → Has xs x → P x) → AllByRecursion P xs
all_from P [] each = tt
all_from P (y ∷ ys) each = (each y (inl refl), all_from P ys (λ x later. each x (inr later)))

module _ {X : Type 0} (R : X → X → Ordering) (o : IsTotalOrder R) where
  not_below : (x : X) → R x x ≡ Less → ⊥
  not_below x less = let back : R x x ≡ ordering_reverse (R x x) = o.antisymm x x in let now = rw less at back in cc

  not_both : (x y : X) → R x y ≡ Less → R y x ≡ Less → ⊥
  not_both x y less more = let back : R x y ≡ ordering_reverse (R y x) = o.antisymm x y in let now = rw (less, more) at back in cc

  not_among : (x : X) (ys : List X) → AllByRecursion (λ y. R x y ≡ Less) ys → Has ys x → ⊥
  not_among x ys below has = not_below x (all_has (λ y. R x y ≡ Less) ys x below has)

  -- two lists that ascend strictly and have the same members are one
  pub same_ascending : (xs ys : List X) → IsStrictlySortedBy R xs → IsStrictlySortedBy R ys → ((z : X) → Has xs z → Has ys z) → ((z : X) → Has ys z → Has xs z) → xs ≡ ys
  unfolding IsStrictlySortedBy
  same_ascending [] [] up also to from = refl
  same_ascending [] (y ∷ ys) up also to from = absurd (from y (inl refl))
  same_ascending (x ∷ xs) [] up also to from = absurd (to x (inl refl))
  same_ascending (x ∷ xs) (y ∷ ys) up also to from =
      let head : x ≡ y = heads (to x (inl refl)) (from y (inl refl)) in
      let tail : xs ≡ ys = same_ascending xs ys up.1 also.1 (λ z has. onward head z has (to z (inr has))) (λ z has. backward head z has (from z (inr has))) in
      rw (head, tail) refl where
        heads : (y ≡ x) ⊎ Has ys x → (x ≡ y) ⊎ Has xs y → x ≡ y
        heads (inl first) there = sym first
        heads (inr later) (inl first) = first
        heads (inr later) (inr more) = absurd (not_both x y (all_has (λ z. R x z ≡ Less) xs y up.0 more) (all_has (λ z. R y z ≡ Less) ys x also.0 later))

        onward : x ≡ y → (z : X) → Has xs z → (y ≡ z) ⊎ Has ys z → Has ys z
        onward head z has (inl here) = absurd (not_among x xs up.0 (subst (λ w. Has xs w) (sym here ∙ sym head) has))
        onward head z has (inr later) = later

        backward : x ≡ y → (z : X) → Has ys z → (x ≡ z) ⊎ Has xs z → Has xs z
        backward head z has (inl here) = absurd (not_among y ys also.0 (subst (λ w. Has ys w) (sym here ∙ head) has))
        backward head z has (inr later) = later

  -- ---- putting in

  pub has-put_in : (x : X) (ys : List X) (z : X) → Has (put_in R x ys) z → (x ≡ z) ⊎ Has ys z
  has-put_in x [] z has = has
  has-put_in x (y ∷ ys) z has = by (R x y) refl has (has-put_in x ys z) where
    by : (r : Ordering) → R x y ≡ r → Has (match_ordering r (x ∷ y ∷ ys) (y ∷ ys) (y ∷ put_in R x ys)) z → (Has (put_in R x ys) z → (x ≡ z) ⊎ Has ys z) → (x ≡ z) ⊎ Has (y ∷ ys) z
    by Less e there inner = there
    by Equal e there inner = inr there
    by Greater e (inl here) inner = inr (inl here)
    by Greater e (inr later) inner = elim (inner later) [ inl here ↦ inl here | inr old ↦ inr (inr old) ]

  pub put_in-has : (x : X) (ys : List X) → ((y : X) → Has ys y → R x y ≡ Equal → x ≡ y) → (z : X) → (x ≡ z) ⊎ Has ys z → Has (put_in R x ys) z
  put_in-has x [] same z has = has
  put_in-has x (y ∷ ys) same z has = by (R x y) refl has (put_in-has x ys (λ w later. same w (inr later)) z) where
    by : (r : Ordering) → R x y ≡ r → (x ≡ z) ⊎ Has (y ∷ ys) z → ((x ≡ z) ⊎ Has ys z → Has (put_in R x ys) z) → Has (match_ordering r (x ∷ y ∷ ys) (y ∷ ys) (y ∷ put_in R x ys)) z
    by Less e there inner = there
    by Equal e (inl here) inner = inl (sym (same y (inl refl) e) ∙ here)
    by Equal e (inr old) inner = old
    by Greater e (inl here) inner = inr (inner (inl here))
    by Greater e (inr (inl first)) inner = inl first
    by Greater e (inr (inr later)) inner = inr (inner (inr later))

  below_all : (x y : X) (ys : List X) → R x y ≡ Less → AllByRecursion (λ z. R y z ≡ Less) ys → AllByRecursion (λ z. R x z ≡ Less) ys
  below_all x y ys less all = all_from (λ z. R x z ≡ Less) ys (λ z has. o.trans x y z less (all_has (λ w. R y w ≡ Less) ys z all has))

  turned : (x y : X) → R x y ≡ Greater → R y x ≡ Less
  turned x y more = let back : R y x ≡ ordering_reverse (R x y) = o.antisymm y x in rw more at back

  pub sorted-put_in : (x : X) (ys : List X) → IsStrictlySortedBy R ys → IsStrictlySortedBy R (put_in R x ys)
  unfolding IsStrictlySortedBy
  sorted-put_in x [] up = (tt, tt)
  sorted-put_in x (y ∷ ys) up = by (R x y) refl (sorted-put_in x ys up.1) where
    by : (r : Ordering) → R x y ≡ r → IsStrictlySortedBy R (put_in R x ys) → IsStrictlySortedBy R (match_ordering r (x ∷ y ∷ ys) (y ∷ ys) (y ∷ put_in R x ys))
    by Less e inner = ((e, below_all x y ys e up.0), up)
    by Equal e inner = up
    by Greater e inner = (all_from (λ z. R y z ≡ Less) (put_in R x ys) (λ z has. elim (has-put_in x ys z has) [ inl here ↦ subst (λ w. R y w ≡ Less) here (turned x y e) | inr later ↦ all_has (λ w. R y w ≡ Less) ys z up.0 later ]), inner)

  pub sorted-ascending : (xs : List X) → IsStrictlySortedBy R (ascending R xs)
  unfolding ascending IsStrictlySortedBy
  sorted-ascending [] = tt
  sorted-ascending (x ∷ xs) = sorted-put_in x (ascending R xs) (sorted-ascending xs)

  pub has-ascending : (xs : List X) (z : X) → Has (ascending R xs) z → Has xs z
  unfolding ascending
  has-ascending [] z has = has
  has-ascending (x ∷ xs) z has = elim (has-put_in x (ascending R xs) z has) [ inl here ↦ inl here | inr later ↦ inr (has-ascending xs z later) ]

  -- where members that are equal in the order are one
  abbrev pub Distinct : List X → Type 0
  Distinct xs = (x y : X) → Has xs x → Has xs y → R x y ≡ Equal → x ≡ y

  pub ascending-has : (xs : List X) → Distinct xs → (z : X) → Has xs z → Has (ascending R xs) z
  unfolding ascending
  ascending-has [] distinct z has = has
  ascending-has (x ∷ xs) distinct z has =
      put_in-has x (ascending R xs) (λ y later. distinct x y (inl refl) (inr (has-ascending xs y later))) z
      (elim has [ inl here ↦ inl here | inr later ↦ inr (ascending-has xs (λ a b p q. distinct a b (inr p) (inr q)) z later) ])

  -- a list that was sorted and then rid of doubles
  pub sorted_once : {E : X → X → Bool} → IsEquivalence E → ((x y : X) → E x y ≡ eq_by_cmp R x y) → ((x y : X) → E x y ≡ true → x ≡ y)
      → (xs ys : List X) → IsPermutation xs ys → IsSorted R ys → dedup E ys ≡ ascending R xs
  sorted_once {E} e ties equal xs ys moved up =
      let same : (x y : X) → R x y ≡ Equal → x ≡ y = λ x y tied. equal x y (ties x y ∙ ap is_eq tied) in
      same_ascending (dedup E ys) (ascending R xs) (IsStrictlySortedBy-dedup o ties ys up) (sorted-ascending xs)
      (λ z has. ascending-has xs (λ x y p q. same x y) z (Has-from xs z (Contains-permutation ys xs z (IsPermutation-sym xs ys moved) (Contains-from_dedup E ys z (Contains-from (dedup E ys) z has)))))
      (λ z has. Has-from (dedup E ys) z (Contains-dedup e equal ys z (Contains-permutation xs ys z moved (Contains-from xs z (has-ascending xs z has)))))
