-- Sets of places.
use Rattle.std.proofs.Common.{◌≡◌, ◌<◌, ◌+◌, ◌==◌, ◌||◌, ℕ, Bool, true, false, cond, List, length, take, get_or, Bor, refl, sym, ap, ◌∙◌, arith, inl, inr}
use Rattle.std.specs.Prelude.{Option, Some, None, MatchOption}
use Rattle.std.specs.Option.{option_copied}
use Rattle.std.specs.BTreeSet.{BTreeSet, contains, IsKeyRangeOf}
use Rattle.std.specs.Cmp.{nat_cmp_is}
use Rattle.std.specs.Map.Iter.{TakesLast, deref}
use Rattle.std.specs.Ordering.{nat_cmp, is_eq}
use Rattle.std.specs.declared.cmp.Ordering.TheVariants.{Less, Equal, Greater}
use Rattle.std.specs.declared.ops.Bound.TheVariants.{Excluded, Unbounded}
use Rattle.std.proofs.lemmas.Bool.{cases_order, eq-eqb, ne_eqb}
use Rattle.std.proofs.lemmas.Cmp.{ranked}
use Rattle.std.proofs.lemmas.List.Folds.{list_any_more}
use Rattle.std.proofs.lemmas.Map.Keys.{ge_from_not_lt}
use Rattle.closures.specs.Places.{has, HasNoneBelow, IsLastBelow}

is_same : (k j : ℕ) → is_eq (nat_cmp k j) ≡ (k == j)
is_same k j =
    elim (cases_order k j) [
      | inl e ↦ ap is_eq (sym (nat_cmp_is k j Equal e)) ∙ sym (eq-eqb k j e)
      | inr w ↦ elim w [
        | inl l ↦ ap is_eq (sym (nat_cmp_is k j Less l)) ∙ sym (ne_eqb k j (λ e. omega (arith, l, e)))
        | inr l ↦ ap is_eq (sym (nat_cmp_is k j Greater l)) ∙ sym (ne_eqb k j (λ e. omega (arith, l, e)))
      ]
    ]

turn : (k a b : Bool) → cond k true (a || b) ≡ ((a || k) || b)
turn true true b = refl
turn true false b = refl
turn false true b = refl
turn false false b = refl

-- the place that comes next is put in
pub one_place_more : (places : List ℕ) (i j : ℕ) (old new base : Bool) → i < length places → new ≡ cond (is_eq (nat_cmp (get_or places i 0) j)) true old → old ≡ (has (take i places) j || base) → new ≡ (has (take (i + 1) places) j || base)
one_place_more places i j old new base lt e before =
    e ∙ ap (λ o. cond (is_eq (nat_cmp (get_or places i 0) j)) true o) before ∙ turn (is_eq (nat_cmp (get_or places i 0) j)) (has (take i places) j) base
    ∙ ap (λ k. (has (take i places) j || k) || base) (is_same (get_or places i 0) j) ∙ ap (λ a. a || base) (sym (list_any_more (λ d. d == j) places i 0 lt))

-- the last of the places of a range that has no start
pub last_of_range : (set : BTreeSet ℕ) (place : ℕ) (r t : List ℕ) (last : Option (Bor ℕ)) → IsKeyRangeOf nat_cmp Unbounded (Excluded place) set r → TakesLast deref r last t → MatchOption (option_copied last) (HasNoneBelow (contains nat_cmp set) place) (IsLastBelow (contains nat_cmp set) place)
last_of_range set place r t None within takes = λ j lt. within.5 takes.0 j (tt, sym (nat_cmp_is j place Less lt))
last_of_range set place r t (Some k) within takes =
    let it = within.3 k.now t takes in
    (ranked k.now place Less (sym it.0.1), it.1, λ j lt is. ge_from_not_lt k.now j (within.4 k.now t takes j (tt, sym (nat_cmp_is j place Less lt)) is))
