-- Lists in ascending order.
use Rattle.std.proofs.Common.{◌≡◌, ◌⊎◌, inl, inr, ℕ, Bool, true, false, cond, List, [], ◌∷◌, filter, map, refl, sym, ap, ◌∙◌, subst}
use Rattle.std.specs.Prelude.{bytes_eq}
use Rattle.std.specs.List.{AllByRecursion}
use Rattle.std.specs.List.Sorted.{IsStrictlySortedBy}
use Rattle.std.specs.Cmp.{IsTotalOrder}
use Rattle.std.specs.Cmp.Lexicographic.{texts_ties}
use Rattle.std.specs.Ordering.{match_ordering, ordering_reverse, is_eq}
use Rattle.std.specs.declared.cmp.Ordering.{Ordering}
use Rattle.std.specs.declared.cmp.Ordering.TheVariants.{Less, Equal, Greater}
use Rattle.std.proofs.lemmas.Bool.{false_from_ne_true}
use Rattle.std.proofs.lemmas.List.Kept.{IsStrictlySortedBy-filter}
use Rattle.std.proofs.lemmas.Slice.Eq.{bytes_eq-Decides}
use Rattle.rel_path.specs.Paths.{Path, name_cmp, path_cmp}
use Rattle.rel_path.proofs.PathLaws.{name_same, path_same, path_ties, name_cmp_self, path_cmp_self}
use Rattle.workspaces.specs.Lists.{put_in, ascending, Has}
use Rattle.pruned_reading.proofs.Lists.{all_has, all_from, map_has, has_map, filter_has, filter_test, has_filter}

-- ---- names and paths

pub path_tied : (a b : Path) → path_cmp a b ≡ Equal → a ≡ b
path_tied a b e = path_same a b (path_ties a b ∙ ap is_eq e)

pub path_not_less : (a : Path) → path_cmp a a ≡ Less → ⊥
path_not_less a less = let self : path_cmp a a ≡ Equal = path_cmp_self a in absurd (cc)

pub name_tied : (a b : List ℕ) → name_cmp a b ≡ Equal → a ≡ b
name_tied a b e = name_same a b (texts_ties a b ∙ ap is_eq e)

pub name_not_less : (a : List ℕ) → name_cmp a a ≡ Less → ⊥
name_not_less a less = let self : name_cmp a a ≡ Equal = name_cmp_self a in absurd (cc)

pub lesser_differs : (a b : List ℕ) → name_cmp a b ≡ Less → bytes_eq a b ≡ false
lesser_differs a b less = false_from_ne_true (bytes_eq a b) (λ e. name_not_less b (subst (λ n. name_cmp n b ≡ Less) ((bytes_eq-Decides a b).0 e) less))

-- ---- any order

module _ {X : Type 0} (R : X → X → Ordering) (o : IsTotalOrder R) where
  not_below : (x : X) → R x x ≡ Less → ⊥
  not_below x less = let back : R x x ≡ ordering_reverse (R x x) = o.antisymm x x in let now = rw less at back in cc

  not_both : (x y : X) → R x y ≡ Less → R y x ≡ Less → ⊥
  not_both x y less more = not_below x (o.trans x y x less more)

  pub turned : (x y : X) → R x y ≡ Greater → R y x ≡ Less
  turned x y more = o.antisymm y x ∙ ap ordering_reverse more

  pub below_all : (x y : X) (ys : List X) → R x y ≡ Less → AllByRecursion (λ z. R y z ≡ Less) ys → AllByRecursion (λ z. R x z ≡ Less) ys
  below_all x y ys less all = all_from (λ z. R x z ≡ Less) ys (λ z has. o.trans x y z less (all_has (λ w. R y w ≡ Less) ys z all has))

  -- two lists that ascend and have the same members are one
  pub same_ascending : (xs ys : List X) → IsStrictlySortedBy R xs → IsStrictlySortedBy R ys → ((z : X) → Has xs z → Has ys z) → ((z : X) → Has ys z → Has xs z) → xs ≡ ys
  unfolding IsStrictlySortedBy
  same_ascending [] [] up also to from = refl
  same_ascending [] (y ∷ ys) up also to from = absurd (from y (inl refl))
  same_ascending (x ∷ xs) [] up also to from = absurd (to x (inl refl))
  same_ascending (x ∷ xs) (y ∷ ys) up also to from =
      let head : x ≡ y = heads (to x (inl refl)) (from y (inl refl)) in
      let tail : xs ≡ ys = same_ascending xs ys up.1 also.1 (λ z has. onward head z has (to z (inr has))) (λ z has. backward head z has (from z (inr has))) in
      λ j. head j ∷ tail j
    where
      not_later : (z : X) (zs : List X) → AllByRecursion (λ w. R z w ≡ Less) zs → Has zs z → ⊥
      not_later z zs all has = not_below z (all_has (λ w. R z w ≡ Less) zs z all has)

      heads : (y ≡ x) ⊎ Has ys x → (x ≡ y) ⊎ Has xs y → x ≡ y
      heads (inl first) there = sym first
      heads (inr later) (inl first) = first
      heads (inr later) (inr more) = absurd (not_both x y (all_has (λ z. R x z ≡ Less) xs y up.0 more) (all_has (λ z. R y z ≡ Less) ys x also.0 later))

      onward : x ≡ y → (z : X) → Has xs z → (y ≡ z) ⊎ Has ys z → Has ys z
      onward head z has (inl here) = absurd (not_later x xs up.0 (subst (Has xs) (sym here ∙ sym head) has))
      onward head z has (inr later) = later

      backward : x ≡ y → (z : X) → Has ys z → (x ≡ z) ⊎ Has xs z → Has xs z
      backward head z has (inl here) = absurd (not_later y ys also.0 (subst (Has ys) (sym here ∙ head) has))
      backward head z has (inr later) = later

  -- ---- put in order

  put_has : (x : X) (ys : List X) (z : X) → Has (put_in R x ys) z → (x ≡ z) ⊎ Has ys z
  put_has x [] z has = has
  put_has x (y ∷ ys) z has = by (R x y) has (put_has x ys z) where
    by : (r : Ordering) → Has (match_ordering r (x ∷ y ∷ ys) (y ∷ ys) (y ∷ put_in R x ys)) z → (Has (put_in R x ys) z → (x ≡ z) ⊎ Has ys z) → (x ≡ z) ⊎ Has (y ∷ ys) z
    by Less there inner = there
    by Equal there inner = inr there
    by Greater (inl here) inner = inr (inl here)
    by Greater (inr later) inner = elim (inner later) [ inl here ↦ inl here | inr old ↦ inr (inr old) ]

  has_put : (x : X) (ys : List X) → ((y : X) → Has ys y → R x y ≡ Equal → x ≡ y) → (z : X) → (x ≡ z) ⊎ Has ys z → Has (put_in R x ys) z
  has_put x [] same z has = has
  has_put x (y ∷ ys) same z has = by (R x y) refl has (has_put x ys (λ w later. same w (inr later)) z) where
    by : (r : Ordering) → R x y ≡ r → (x ≡ z) ⊎ Has (y ∷ ys) z → ((x ≡ z) ⊎ Has ys z → Has (put_in R x ys) z) → Has (match_ordering r (x ∷ y ∷ ys) (y ∷ ys) (y ∷ put_in R x ys)) z
    by Less e there inner = there
    by Equal e (inl here) inner = inl (sym (same y (inl refl) e) ∙ here)
    by Equal e (inr old) inner = old
    by Greater e (inl here) inner = inr (inner (inl here))
    by Greater e (inr (inl first)) inner = inl first
    by Greater e (inr (inr later)) inner = inr (inner (inr later))

  put_up : (x : X) (ys : List X) → IsStrictlySortedBy R ys → IsStrictlySortedBy R (put_in R x ys)
  unfolding IsStrictlySortedBy
  put_up x [] up = (tt, tt)
  put_up x (y ∷ ys) up = by (R x y) refl (put_up x ys up.1) where
    above : R x y ≡ Greater → (z : X) → (x ≡ z) ⊎ Has ys z → R y z ≡ Less
    above e z (inl here) = subst (λ w. R y w ≡ Less) here (turned x y e)
    above e z (inr later) = all_has (λ w. R y w ≡ Less) ys z up.0 later

    by : (r : Ordering) → R x y ≡ r → IsStrictlySortedBy R (put_in R x ys) → IsStrictlySortedBy R (match_ordering r (x ∷ y ∷ ys) (y ∷ ys) (y ∷ put_in R x ys))
    by Less e inner = ((e, below_all x y ys e up.0), up)
    by Equal e inner = up
    by Greater e inner = (all_from (λ z. R y z ≡ Less) (put_in R x ys) (λ z has. above e z (put_has x ys z has)), inner)

  pub ascending_up : (xs : List X) → IsStrictlySortedBy R (ascending R xs)
  unfolding ascending IsStrictlySortedBy
  ascending_up [] = tt
  ascending_up (x ∷ xs) = put_up x (ascending R xs) (ascending_up xs)

  pub ascending_has : (xs : List X) (z : X) → Has (ascending R xs) z → Has xs z
  unfolding ascending
  ascending_has [] z has = has
  ascending_has (x ∷ xs) z has = elim (put_has x (ascending R xs) z has) [ inl here ↦ inl here | inr later ↦ inr (ascending_has xs z later) ]

  -- where members that are equal in the order are one
  pub has_ascending : (xs : List X) → ((x y : X) → Has xs x → Has xs y → R x y ≡ Equal → x ≡ y) → (z : X) → Has xs z → Has (ascending R xs) z
  unfolding ascending
  has_ascending [] distinct z has = has
  has_ascending (x ∷ xs) distinct z has =
      has_put x (ascending R xs) (λ y later. distinct x y (inl refl) (inr (ascending_has xs y later))) z
      (elim has [ inl here ↦ inl here | inr later ↦ inr (has_ascending xs (λ a b p q. distinct a b (inr p) (inr q)) z later) ])

-- ---- some of the members

-- what passes, put in order, is what passes of the list in order
pub ascending_filter : {X : Type 0} (R : X → X → Ordering) → IsTotalOrder R → (test : X → Bool) (xs : List X) → ((x y : X) → Has xs x → Has xs y → R x y ≡ Equal → x ≡ y) → ascending R (filter test xs) ≡ filter test (ascending R xs)
ascending_filter R o test xs distinct =
    same_ascending R o (ascending R (filter test xs)) (filter test (ascending R xs)) (ascending_up R o (filter test xs)) (IsStrictlySortedBy-filter R test (ascending R xs) (ascending_up R o xs))
    (λ z has. let h = ascending_has R o (filter test xs) z has in has_filter test (ascending R xs) z (has_ascending R o xs distinct z (filter_has test xs z h)) (filter_test test xs z h))
    (λ z has.
    has_ascending R o (filter test xs) (λ x y p q. distinct x y (filter_has test xs x p) (filter_has test xs y q)) z
    (has_filter test xs z (ascending_has R o xs z (filter_has test (ascending R xs) z has)) (filter_test test (ascending R xs) z has)))

module _ {X K : Type 0} (R : K → K → Ordering) (key : X → K) where
  pub sorted_keys : (test : X → Bool) (xs : List X) → IsStrictlySortedBy R (map key xs) → IsStrictlySortedBy R (map key (filter test xs))
  unfolding IsStrictlySortedBy
  sorted_keys test [] up = tt
  sorted_keys test (x ∷ xs) up = by (test x) (sorted_keys test xs up.1) where
    below : (k : K) → Has (map key (filter test xs)) k → R (key x) k ≡ Less
    below k has =
        let y = has_map key (filter test xs) k has in
        subst (λ l. R (key x) l ≡ Less) y.2 (all_has (λ l. R (key x) l ≡ Less) (map key xs) (key y.0) up.0 (map_has key xs y.0 (filter_has test xs y.0 y.1)))

    by : (b : Bool) → IsStrictlySortedBy R (map key (filter test xs)) → IsStrictlySortedBy R (map key (cond b (x ∷ filter test xs) (filter test xs)))
    by true more = (all_from (λ k. R (key x) k ≡ Less) (map key (filter test xs)) below, more)
    by false more = more

  -- where keys ascend, members with one key are one
  pub one_by_key : ((k : K) → R k k ≡ Less → ⊥) → (xs : List X) → IsStrictlySortedBy R (map key xs) → (x y : X) → Has xs x → Has xs y → key x ≡ key y → x ≡ y
  unfolding IsStrictlySortedBy
  one_by_key never [] up x y a b e = absurd a
  one_by_key never (z ∷ zs) up x y (inl a) (inl b) e = sym a ∙ b
  one_by_key never (z ∷ zs) up x y (inl a) (inr b) e =
      absurd (never (key y) (subst (λ k. R k (key y) ≡ Less) (ap key a ∙ e) (all_has (λ k. R (key z) k ≡ Less) (map key zs) (key y) up.0 (map_has key zs y b))))
  one_by_key never (z ∷ zs) up x y (inr a) (inl b) e =
      absurd (never (key x) (subst (λ k. R k (key x) ≡ Less) (ap key b ∙ sym e) (all_has (λ k. R (key z) k ≡ Less) (map key zs) (key x) up.0 (map_has key zs x a))))
  one_by_key never (z ∷ zs) up x y (inr a) (inr b) e = one_by_key never zs up.1 x y a b e
