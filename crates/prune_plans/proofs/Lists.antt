-- Lists of numbers that ascend, places of what passes, and searches that find nothing.
use Rattle.std.proofs.Common.{◌≡◌, ◌==◌, ◌<◌, ◌⊎◌, ℕ, zero, suc, Bool, true, false, cond, List, [], ◌∷◌, Option, Some, None, length, map, refl, sym, ap, ◌∙◌, subst, inl, inr, arith}
use Rattle.std.specs.Prelude.{find}
use Rattle.std.specs.List.{filter_map, cons_option, AllByRecursion}
use Rattle.std.specs.List.Sorted.{IsStrictlySortedBy}
use Rattle.std.specs.Ordering.{nat_cmp, MatchOrdering}
use Rattle.std.specs.declared.cmp.Ordering.TheVariants.{Less}
use Rattle.std.specs.Cmp.{nat_cmp_is, ranks}
use Rattle.std.proofs.lemmas.Bool.{cases_Bool}
use Rattle.std.proofs.lemmas.Bool.Decides.{nat_tests}
use Rattle.workspaces.specs.Lists.{Has, places}
use Rattle.workspaces.specs.Reach.{is_in}
use Rattle.prune_facts.proofs.Lists.{none≢some, any_has, has_any, map-has}
use Rattle.prune_facts.proofs.Sorted.{all_member}

-- ---- numbers

pub in_has : (ns : List ℕ) (n : ℕ) → is_in ns n ≡ true → Has ns n
in_has ns n h = let q = any_has (λ m. m == n) ns h in let same : q.0 ≡ n = equal q.0 q.2 in subst (Has ns) same q.1
  where
    equal : (m : ℕ) → (m == n) ≡ true → m ≡ n
    equal m e = grind (arith, nat_tests, e)

pub has_in : (ns : List ℕ) (n : ℕ) → Has ns n → is_in ns n ≡ true
has_in ns n h = has_any (λ m. m == n) ns n h (grind (arith, nat_tests))

less_nat : (a b : ℕ) → nat_cmp a b ≡ Less → a < b
less_nat a b less = subst (λ r. MatchOrdering r (a < b) (a ≡ b) (b < a)) less (ranks a b)

nat_less : (a b : ℕ) → a < b → nat_cmp a b ≡ Less
nat_less a b less = sym (nat_cmp_is a b Less less)

above : (n m : ℕ) (ns : List ℕ) → AllByRecursion (λ k. nat_cmp n k ≡ Less) ns → Has ns m → n < m
above n m ns all h = less_nat n m (all_member (λ k. nat_cmp n k ≡ Less) ns m all h)

same_members : (ns ms : List ℕ) → IsStrictlySortedBy nat_cmp ns → IsStrictlySortedBy nat_cmp ms → ((k : ℕ) → Has ns k → Has ms k) → ((k : ℕ) → Has ms k → Has ns k) → ns ≡ ms
unfolding IsStrictlySortedBy
same_members [] [] up also f g = refl
same_members [] (m ∷ ms) up also f g = absurd (g m (inl refl))
same_members (n ∷ ns) [] up also f g = absurd (f n (inl refl))
same_members (n ∷ ns) (m ∷ ms) up also f g =
    let head : n ≡ m = heads (f n (inl refl)) (g m (inl refl)) in
    let tail = same_members ns ms up.1 also.1
    (λ k h. later m n k ms (sym head) (above n k ns up.0 h) (f k (inr h)))
    (λ k h. later n m k ns head (above m k ms also.0 h) (g k (inr h))) in
    λ j. head j ∷ tail j
  where
    heads : (m ≡ n) ⊎ Has ms n → (n ≡ m) ⊎ Has ns m → n ≡ m
    heads (inl e) there = sym e
    heads (inr h) (inl e) = e
    heads (inr h) (inr u) = let a = above m n ms also.0 h in let b = above n m ns up.0 u in absurd (omega (arith, a, b))

    later : (a b k : ℕ) (rest : List ℕ) → a ≡ b → b < k → (a ≡ k) ⊎ Has rest k → Has rest k
    later a b k rest same less (inl e) = absurd (omega (arith, same, less, e))
    later a b k rest same less (inr u) = u

-- lists that ascend are known by their members
pub one_ascending : (ns ms : List ℕ) → IsStrictlySortedBy nat_cmp ns → IsStrictlySortedBy nat_cmp ms → ((k : ℕ) → is_in ns k ≡ is_in ms k) → ns ≡ ms
one_ascending ns ms up also same = same_members ns ms up also (λ k h. in_has ms k (sym (same k) ∙ has_in ns k h)) (λ k h. in_has ns k (same k ∙ has_in ms k h))

-- ---- places

module _ {X : Type 0} (t : X → Bool) where
  pub place_within : (xs : List X) (n : ℕ) → Has (places t xs) n → n < length xs
  unfolding places
  place_within [] n h = absurd h
  place_within (x ∷ xs) n h = by (t x) h (place_within xs)
    where
      further : Has (map suc (places t xs)) n → ((m : ℕ) → Has (places t xs) m → m < length xs) → n < length (x ∷ xs)
      further u rest = let r = map-has suc (places t xs) n u in let less = rest r.0 r.1 in let e = r.2 in omega (arith, less, e)

      by : (b : Bool) → Has (cond b (zero ∷ map suc (places t xs)) (map suc (places t xs))) n → ((m : ℕ) → Has (places t xs) m → m < length xs) → n < length (x ∷ xs)
      by true (inl e) rest = omega (arith, e)
      by true (inr u) rest = further u rest
      by false u rest = further u rest

  later_all : (n : ℕ) (ns : List ℕ) → AllByRecursion (λ k. nat_cmp n k ≡ Less) ns → AllByRecursion (λ k. nat_cmp (suc n) k ≡ Less) (map suc ns)
  later_all n [] all = tt
  later_all n (m ∷ ns) all = (let less = less_nat n m all.0 in nat_less (suc n) (suc m) (omega (arith, less)), later_all n ns all.1)

  zero_all : (ns : List ℕ) → AllByRecursion (λ k. nat_cmp 0 k ≡ Less) (map suc ns)
  zero_all [] = tt
  zero_all (n ∷ ns) = (nat_less 0 (suc n) (omega arith), zero_all ns)

  later_sorted : (ns : List ℕ) → IsStrictlySortedBy nat_cmp ns → IsStrictlySortedBy nat_cmp (map suc ns)
  unfolding IsStrictlySortedBy
  later_sorted [] up = tt
  later_sorted (n ∷ ns) up = (later_all n ns up.0, later_sorted ns up.1)

  pub places_ascend : (xs : List X) → IsStrictlySortedBy nat_cmp (places t xs)
  unfolding places IsStrictlySortedBy
  places_ascend [] = tt
  places_ascend (x ∷ xs) = by (t x) (later_sorted (places t xs) (places_ascend xs))
    where
      by : (b : Bool) → IsStrictlySortedBy nat_cmp (map suc (places t xs)) → IsStrictlySortedBy nat_cmp (cond b (zero ∷ map suc (places t xs)) (map suc (places t xs)))
      by true up = (zero_all (places t xs), up)
      by false up = up

-- ---- a search

module _ {X : Type 0} (t : X → Bool) where
  pub find_none : (xs : List X) → ((x : X) → Has xs x → t x ≡ false) → find t xs ≡ None
  find_none [] each = refl
  find_none (x ∷ xs) each = rw (each x (inl refl)) (find_none xs (λ y h. each y (inr h)))

  pub none_found : (xs : List X) (x : X) → find t xs ≡ None → Has xs x → t x ≡ false
  none_found [] x e h = absurd h
  none_found (y ∷ ys) x e h =
      elim (cases_Bool (t y)) [
        | inl k ↦ absurd (none≢some y (sym (rw k at e)))
        | inr f ↦ elim h [ inl s ↦ ap t (sym s) ∙ f | inr u ↦ none_found ys x (rw f at e) u ]
      ]

pub find_same : {X : Type 0} (s t : X → Bool) (xs : List X) → ((x : X) → Has xs x → s x ≡ t x) → find s xs ≡ find t xs
find_same s t [] same = refl
find_same s t (x ∷ xs) same =
    let a = same x (inl refl) in
    let b = find_same s t xs (λ y h. same y (inr h)) in
    λ j. cond (a j) (Some x) (b j)

pub same_mapped : {X Y : Type 0} (f g : X → Option Y) (xs : List X) → ((x : X) → Has xs x → f x ≡ g x) → filter_map f xs ≡ filter_map g xs
same_mapped f g [] same = refl
same_mapped f g (x ∷ xs) same =
    let a = same x (inl refl) in
    let b = same_mapped f g xs (λ y h. same y (inr h)) in
    λ j. cons_option (a j) (b j)
