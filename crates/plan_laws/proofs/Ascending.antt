-- Lists that ascend strictly are known by their members.
use Rattle.std.proofs.Common.{◌≡◌, ◌||◌, ◌≤◌, ◌<◌, ◌⊎◌, inl, inr, Bool, true, false, List, [], ◌∷◌, length, refl, sym, ap, ◌∙◌, subst, arith}
use Rattle.std.specs.List.{AllByRecursion, list_any, IsDistinct}
use Rattle.std.specs.List.Sorted.{IsStrictlySortedBy}
use Rattle.std.specs.Set.{is_member}
use Rattle.std.specs.declared.cmp.Ordering.{Ordering}
use Rattle.std.specs.declared.cmp.Ordering.TheVariants.{Less, Greater}
use Rattle.std.specs.Ordering.{ordering_reverse}
use Rattle.std.specs.Cmp.{IsTotalOrder, IsEquivalence}
use Rattle.std.proofs.lemmas.Bool.{false≢true}
use Rattle.std.proofs.lemmas.Map.Keys.{IsDistinct-cons}
use Rattle.std.proofs.lemmas.Map.Made.{length-le_from_is_member}
use Rattle.plan_laws.specs.Least.{both_ways}

pub or_cases : (a b : Bool) → (a || b) ≡ true → (a ≡ true) ⊎ (b ≡ true)
or_cases true b e = inl refl
or_cases false b e = inr e

pub or_left : (a b : Bool) → a ≡ true → (a || b) ≡ true
or_left true b e = refl
or_left false b e = absurd (false≢true e)

pub or_right : (a b : Bool) → b ≡ true → (a || b) ≡ true
or_right true b e = refl
or_right false b e = e

pub by_false : (b : Bool) → (b ≡ true → ⊥) → b ≡ false
by_false true never = absurd (never refl)
by_false false never = refl

-- lists by a test of equality that tells members apart
module _ {X : Type 0} (R : X → X → Ordering) (o : IsTotalOrder R) (E : X → X → Bool) (same : (x y : X) → E x y ≡ true → x ≡ y) (self : (x : X) → E x x ≡ true) where
  abbrev pub among : List X → X → Bool
  among xs z = list_any (λ y. E y z) xs

  pub all_among : (P : X → Type 0) (xs : List X) (z : X) → AllByRecursion P xs → among xs z ≡ true → P z
  all_among P [] z all is = absurd (false≢true is)
  all_among P (x ∷ xs) z all is = elim (or_cases (E x z) (among xs z) is) [
    | inl here ↦ subst P (same x z here) all.0
    | inr later ↦ all_among P xs z all.1 later
  ]

  pub all_from : (P : X → Type 0) (xs : List X) → ((z : X) → among xs z ≡ true → P z) → AllByRecursion P xs
  all_from P [] each = tt
  all_from P (x ∷ xs) each = (each x (or_left (E x x) (among xs x) (self x)), all_from P xs (λ z later. each z (or_right (E x z) (among xs z) later)))

  pub not_below : (x : X) → R x x ≡ Less → ⊥
  not_below x less = let back : R x x ≡ ordering_reverse (R x x) = o.antisymm x x in let now = rw less at back in cc

  pub not_both : (x y : X) → R x y ≡ Less → R y x ≡ Less → ⊥
  not_both x y less more = not_below x (o.trans x y x less more)

  pub turned : (x y : X) → R x y ≡ Greater → R y x ≡ Less
  turned x y more = let back : R y x ≡ ordering_reverse (R x y) = o.antisymm y x in rw more at back

  first_among : (x : X) (xs : List X) → among (x ∷ xs) x ≡ true
  first_among x xs = or_left (E x x) (among xs x) (self x)

  -- the same tests find the same members
  pub one_ascending : (xs ys : List X) → IsStrictlySortedBy R xs → IsStrictlySortedBy R ys → ((z : X) → among xs z ≡ among ys z) → xs ≡ ys
  unfolding IsStrictlySortedBy
  one_ascending [] [] up also alike = refl
  one_ascending [] (y ∷ ys) up also alike = absurd (false≢true (alike y ∙ first_among y ys))
  one_ascending (x ∷ xs) [] up also alike = absurd (false≢true (sym (alike x) ∙ first_among x xs))
  one_ascending (x ∷ xs) (y ∷ ys) up also alike =
      let head : x ≡ y = heads (or_cases (E y x) (among ys x) (sym (alike x) ∙ first_among x xs)) (or_cases (E x y) (among xs y) (alike y ∙ first_among y ys)) in
      let tail : xs ≡ ys = one_ascending xs ys up.1 also.1 (λ z. both_ways (among xs z) (among ys z)
      (λ is. inner x xs y ys up.0 head z is (or_cases (E y z) (among ys z) (sym (alike z) ∙ or_right (E x z) (among xs z) is)))
      (λ is. inner y ys x xs also.0 (sym head) z is (or_cases (E x z) (among xs z) (alike z ∙ or_right (E y z) (among ys z) is)))) in
      rw (head, tail) refl where
        heads : (E y x ≡ true) ⊎ (among ys x ≡ true) → (E x y ≡ true) ⊎ (among xs y ≡ true) → x ≡ y
        heads (inl here) there = sym (same y x here)
        heads (inr later) (inl here) = same x y here
        heads (inr later) (inr more) = absurd (not_both x y (all_among (λ z. R x z ≡ Less) xs y up.0 more) (all_among (λ z. R y z ≡ Less) ys x also.0 later))

        inner : (a : X) (als : List X) (b : X) (bs : List X) → AllByRecursion (λ z. R a z ≡ Less) als → a ≡ b → (z : X) → among als z ≡ true → (E b z ≡ true) ⊎ (among bs z ≡ true) → among bs z ≡ true
        inner a als b bs below ab z is (inl here) = absurd (not_below a (all_among (λ w. R a w ≡ Less) als a below (subst (λ w. among als w ≡ true) (sym (ab ∙ same b z here)) is)))
        inner a als b bs below ab z is (inr later) = later

  -- ---- how many

  swaps : (x y : X) → E x y ≡ E y x
  swaps x y = both_ways (E x y) (E y x) (λ e. subst (λ w. E w x ≡ true) (same x y e) (self x)) (λ e. subst (λ w. E w y ≡ true) (same y x e) (self y))

  alike : IsEquivalence E
  alike = record { refl = self; symm = swaps; congr = λ x y z e. ap (λ w. E w z) (same x y e) }

  member-among : (xs : List X) (z : X) → is_member E xs z ≡ among xs z
  member-among [] z = refl
  member-among (x ∷ xs) z = λ j. swaps z x j || member-among xs z j

  distinct : (xs : List X) → IsStrictlySortedBy R xs → IsDistinct E xs
  unfolding IsStrictlySortedBy IsDistinct
  distinct [] up = tt
  distinct (x ∷ xs) up = (all_from (λ y. E x y ≡ false) xs (λ y is. by_false (E x y) (λ e. not_below x (subst (λ w. R x w ≡ Less) (sym (same x y e)) (all_among (λ z. R x z ≡ Less) xs y up.0 is)))), distinct xs up.1)

  -- ascending members of a list, which has one more, are fewer than that list has
  pub fewer : (few many : List X) (x : X) → IsStrictlySortedBy R few → ((z : X) → among few z ≡ true → among many z ≡ true) → among few x ≡ false → among many x ≡ true → length few < length many
  fewer few many x up within out there =
      let apart : AllByRecursion (λ y. E x y ≡ false) few = all_from (λ y. E x y ≡ false) few (λ y is. by_false (E x y) (λ e. false≢true (sym out ∙ subst (λ w. among few w ≡ true) (sym (same x y e)) is))) in
      let most : length (x ∷ few) ≤ length many = length-le_from_is_member alike (x ∷ few) many (IsDistinct-cons E x few apart (distinct few up)) (λ q is. member-among many q ∙ among_both q (or_cases (E x q) (among few q) (sym (member-among (x ∷ few) q) ∙ is))) in
      omega (arith, most) where
        among_both : (q : X) → (E x q ≡ true) ⊎ (among few q ≡ true) → among many q ≡ true
        among_both q (inl here) = subst (λ w. among many w ≡ true) (same x q here) there
        among_both q (inr later) = within q later
