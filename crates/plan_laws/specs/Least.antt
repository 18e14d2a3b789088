-- A property has one least set, and an order that tells all apart ties nothing but equals.
use Rattle.std.proofs.Common.{◌≡◌, Bool, true, false, List, refl, sym, ℕ}
use Rattle.std.specs.declared.cmp.Ordering.{Ordering}
use Rattle.std.specs.declared.cmp.Ordering.TheVariants.{Less, Equal, Greater}
use Rattle.std.specs.Ordering.{ordering_then}
use Rattle.std.specs.Cmp.{IsTotalOrder}
use Rattle.std.specs.Cmp.Lexicographic.{nat_list_cmp_total}
use Rattle.std.proofs.lemmas.Cmp.{then_total, on_total}
use Rattle.std.proofs.lemmas.Map.Lookups.{exact_bytes}
use Rattle.rel_path.specs.Paths.{name_cmp}

-- two tests that take what the other takes are equal
pub both_ways : (s t : Bool) → (s ≡ true → t ≡ true) → (t ≡ true → s ≡ true) → s ≡ t
both_ways true t f g = sym (f refl)
both_ways false true f g = g refl
both_ways false false f g = refl

pub one_least : {X : Type 0} (Closed : (X → Bool) → Type 0) (one other : X → Bool)
    → Closed one × ((set : X → Bool) → Closed set → (x : X) → one x ≡ true → set x ≡ true)
    → Closed other × ((set : X → Bool) → Closed set → (x : X) → other x ≡ true → set x ≡ true) → one ≡ other
one_least Closed one other a b = λ j x. both_ways (one x) (other x) (a.1 other b.0 x) (b.1 one a.0 x) j

-- ---- by one name and then by another

module _ {X : Type 0} (f g : X → List ℕ) where
  abbrev pub by_two : X → X → Ordering
  by_two a b = ordering_then (name_cmp (f a) (f b)) (name_cmp (g a) (g b))

  pub by_two_total : IsTotalOrder by_two
  by_two_total = then_total (on_total f nat_list_cmp_total) (on_total g nat_list_cmp_total)

  pub firsts_tied : (a b : X) → by_two a b ≡ Equal → f a ≡ f b
  firsts_tied a b e = exact_bytes (f a) (f b) (by (name_cmp (f a) (f b)) (name_cmp (g a) (g b)) e) where
    by : (r s : Ordering) → ordering_then r s ≡ Equal → r ≡ Equal
    by Less s e = e
    by Equal s e = refl
    by Greater s e = e

  pub seconds_tied : (a b : X) → by_two a b ≡ Equal → g a ≡ g b
  seconds_tied a b e = exact_bytes (g a) (g b) (by (name_cmp (f a) (f b)) (name_cmp (g a) (g b)) e) where
    by : (r s : Ordering) → ordering_then r s ≡ Equal → s ≡ Equal
    by Less s e = cc
    by Equal s e = e
    by Greater s e = cc
