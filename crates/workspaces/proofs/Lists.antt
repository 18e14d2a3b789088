-- Places of what passes, and strictly ascending numbers.
use Rattle.std.proofs.Common.{◌≡◌, ◌==◌, inl, inr, ℕ, zero, suc, ◌<◌, Bool, true, false, cond, List, [], ◌∷◌, map, refl, sym, ap, subst, arith}
use Rattle.std.specs.List.Sorted.{IsStrictlySortedBy}
use Rattle.std.specs.declared.cmp.Ordering.TheVariants.{Less, Equal}
use Rattle.std.specs.Ordering.{nat_cmp, MatchOrdering}
use Rattle.std.specs.Cmp.{nat_cmp_is, ranks}
use Rattle.std.proofs.lemmas.Cmp.{nat_cmp_total}
use Rattle.std.proofs.lemmas.Bool.{false≢true}
use Rattle.std.proofs.lemmas.Bool.Decides.{nat_tests}
use Rattle.workspaces.specs.Lists.{ascending, places, passes_at, Has}
use Rattle.workspaces.proofs.Order.{same_ascending, sorted-ascending, has-ascending, ascending-has, all_from, all_has}

pub nat_less : (a b : ℕ) → a < b → nat_cmp a b ≡ Less
nat_less a b less = sym (nat_cmp_is a b Less less)

pub less_nat : (a b : ℕ) → nat_cmp a b ≡ Less → a < b
less_nat a b less = subst (λ r. MatchOrdering r (a < b) (a ≡ b) (b < a)) less (ranks a b)

pub nat_tied : (a b : ℕ) → nat_cmp a b ≡ Equal → a ≡ b
nat_tied a b tied = subst (λ r. MatchOrdering r (a < b) (a ≡ b) (b < a)) tied (ranks a b)

pub nat_same : (a b : ℕ) → (a == b) ≡ true → a ≡ b
nat_same a b e = grind (arith, nat_tests, e)

has-suc : (xs : List ℕ) (q : ℕ) → Has (map suc xs) q → (r : ℕ) × (q ≡ suc r) × Has xs r
has-suc [] q has = absurd has
has-suc (x ∷ xs) q (inl here) = (x, sym here, inl refl)
has-suc (x ∷ xs) q (inr later) = let r = has-suc xs q later in (r.0, r.1, inr r.2)

suc-has : (xs : List ℕ) (r : ℕ) → Has xs r → Has (map suc xs) (suc r)
suc-has [] r has = absurd has
suc-has (x ∷ xs) r (inl here) = inl (ap suc here)
suc-has (x ∷ xs) r (inr later) = inr (suc-has xs r later)

zero_not_suc : (xs : List ℕ) → Has (map suc xs) 0 → ⊥
zero_not_suc xs has = let r = has-suc xs 0 has in absurd (omega (arith, r.1))

module _ {X : Type 0} (test : X → Bool) where
  pub has-places : (xs : List X) (q : ℕ) → Has (places test xs) q → passes_at test xs q ≡ true
  unfolding places
  has-places [] q has = absurd has
  has-places (x ∷ xs) q has = by (test x) refl q has (has-places xs) where
    further : (q : ℕ) → Has (map suc (places test xs)) q → ((r : ℕ) → Has (places test xs) r → passes_at test xs r ≡ true) → passes_at test (x ∷ xs) q ≡ true
    further q has inner = let r = has-suc (places test xs) q has in rw r.1 (inner r.0 r.2)

    by : (t : Bool) → test x ≡ t → (q : ℕ) → Has (cond t (zero ∷ map suc (places test xs)) (map suc (places test xs))) q → ((r : ℕ) → Has (places test xs) r → passes_at test xs r ≡ true) → passes_at test (x ∷ xs) q ≡ true
    by true e q (inl here) inner = rw (← here) e
    by true e q (inr later) inner = further q later inner
    by false e q has inner = further q has inner

  pub places-has : (xs : List X) (q : ℕ) → passes_at test xs q ≡ true → Has (places test xs) q
  unfolding places
  places-has [] q passes = absurd (false≢true passes)
  places-has (x ∷ xs) zero passes = rw passes (inl refl)
  places-has (x ∷ xs) (suc q) passes = by (test x) (suc-has (places test xs) q (places-has xs q passes)) where
    by : (t : Bool) → Has (map suc (places test xs)) (suc q) → Has (cond t (zero ∷ map suc (places test xs)) (map suc (places test xs))) (suc q)
    by true has = inr has
    by false has = has

  sorted-suc : (xs : List ℕ) → IsStrictlySortedBy nat_cmp xs → IsStrictlySortedBy nat_cmp (map suc xs)
  unfolding IsStrictlySortedBy
  sorted-suc [] up = tt
  sorted-suc (x ∷ xs) up = (all_from (λ y. nat_cmp (suc x) y ≡ Less) (map suc xs) (λ y has. let r = has-suc xs y has in let low : x < r.0 = less_nat x r.0 (all_has (λ z. nat_cmp x z ≡ Less) xs r.0 up.0 r.2) in nat_less (suc x) y (omega (arith, r.1))), sorted-suc xs up.1)

  pub sorted-places : (xs : List X) → IsStrictlySortedBy nat_cmp (places test xs)
  unfolding places IsStrictlySortedBy
  sorted-places [] = tt
  sorted-places (x ∷ xs) = by (test x) (sorted-suc (places test xs) (sorted-places xs)) where
    by : (t : Bool) → IsStrictlySortedBy nat_cmp (map suc (places test xs)) → IsStrictlySortedBy nat_cmp (cond t (zero ∷ map suc (places test xs)) (map suc (places test xs)))
    by true up = (all_from (λ y. nat_cmp 0 y ≡ Less) (map suc (places test xs)) (λ y has. let r = has-suc (places test xs) y has in nat_less 0 y (omega (arith, r.1))), up)
    by false up = up

  -- numbers that are exactly those places
  pub are_places : (xs : List X) (found : List ℕ) → ((q : ℕ) → Has found q → passes_at test xs q ≡ true) → ((q : ℕ) → passes_at test xs q ≡ true → Has found q) → ascending nat_cmp found ≡ places test xs
  are_places xs found exact all =
      same_ascending nat_cmp nat_cmp_total (ascending nat_cmp found) (places test xs) (sorted-ascending nat_cmp nat_cmp_total found) (sorted-places xs)
      (λ q has. places-has xs q (exact q (has-ascending nat_cmp nat_cmp_total found q has)))
      (λ q has. ascending-has nat_cmp nat_cmp_total found (λ a b p r. nat_tied a b) q (all q (has-places xs q has)))
