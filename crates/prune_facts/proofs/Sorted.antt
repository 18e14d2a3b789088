-- Lists in ascending order.
use Rattle.std.proofs.Common.{◌≡◌, ◌⊎◌, inl, inr, List, [], ◌∷◌, refl, subst}
use Rattle.std.specs.List.{AllByRecursion}
use Rattle.std.specs.List.Sorted.{IsStrictlySortedBy}
use Rattle.std.specs.declared.cmp.Ordering.{Ordering}
use Rattle.std.specs.declared.cmp.Ordering.TheVariants.{Less, Equal, Greater}
use Rattle.std.specs.Ordering.{match_ordering, ordering_reverse}
use Rattle.std.specs.Cmp.{IsTotalOrder}
use Rattle.workspaces.specs.Lists.{put_in, ascending, Has}

pub all_member : {X : Type 0} (P : X → Type 0) (xs : List X) (x : X) → AllByRecursion P xs → Has xs x → P x
all_member P [] x all h = absurd h
all_member P (y ∷ ys) x all (inl e) = subst P e all.0
all_member P (y ∷ ys) x all (inr h) = all_member P ys x all.1 h

pub member_all : {X : Type 0} (P : X → Type 0) (xs : List X) → ((x : X) → Has xs x → P x) → AllByRecursion P xs
member_all P [] each = tt
member_all P (y ∷ ys) each = (each y (inl refl), member_all P ys (λ x h. each x (inr h)))

has-put : {X : Type 0} (cmp : X → X → Ordering) (x : X) (ys : List X) (z : X) → Has (put_in cmp x ys) z → (x ≡ z) ⊎ Has ys z
has-put cmp x [] z (inl e) = inl e
has-put cmp x [] z (inr h) = absurd h
has-put cmp x (y ∷ ys) z h = by (cmp x y) h (has-put cmp x ys z)
  where
    by : (o : Ordering) → Has (match_ordering o (x ∷ y ∷ ys) (y ∷ ys) (y ∷ put_in cmp x ys)) z → (Has (put_in cmp x ys) z → (x ≡ z) ⊎ Has ys z) → (x ≡ z) ⊎ Has (y ∷ ys) z
    by Less u rest = u
    by Equal u rest = inr u
    by Greater (inl e) rest = inr (inl e)
    by Greater (inr u) rest = elim (rest u) [ inl a ↦ inl a | inr b ↦ inr (inr b) ]

-- the members in order are members
pub has-ascending : {X : Type 0} (cmp : X → X → Ordering) (xs : List X) (z : X) → Has (ascending cmp xs) z → Has xs z
unfolding ascending
has-ascending cmp [] z h = h
has-ascending cmp (x ∷ xs) z h = elim (has-put cmp x (ascending cmp xs) z h) [ inl e ↦ inl e | inr u ↦ inr (has-ascending cmp xs z u) ]

module _ {X : Type 0} (cmp : X → X → Ordering) (total : IsTotalOrder cmp) where
  turned : (x y : X) → cmp x y ≡ Greater → cmp y x ≡ Less
  turned x y more = let back : cmp y x ≡ ordering_reverse (cmp x y) = total.antisymm y x in rw more at back

  below_all : (x y : X) (ys : List X) → cmp x y ≡ Less → AllByRecursion (λ z. cmp y z ≡ Less) ys → AllByRecursion (λ z. cmp x z ≡ Less) ys
  below_all x y ys less all = member_all (λ z. cmp x z ≡ Less) ys (λ z h. total.trans x y z less (all_member (λ w. cmp y w ≡ Less) ys z all h))

  sorted-put : (x : X) (ys : List X) → IsStrictlySortedBy cmp ys → IsStrictlySortedBy cmp (put_in cmp x ys)
  unfolding IsStrictlySortedBy
  sorted-put x [] up = (tt, tt)
  sorted-put x (y ∷ ys) up = by (cmp x y) refl (sorted-put x ys up.1)
    where
      by : (r : Ordering) → cmp x y ≡ r → IsStrictlySortedBy cmp (put_in cmp x ys) → IsStrictlySortedBy cmp (match_ordering r (x ∷ y ∷ ys) (y ∷ ys) (y ∷ put_in cmp x ys))
      by Less e inner = ((e, below_all x y ys e up.0), up)
      by Equal e inner = up
      by Greater e inner = (member_all (λ z. cmp y z ≡ Less) (put_in cmp x ys) (λ z h. elim (has-put cmp x ys z h) [ inl here ↦ subst (λ w. cmp y w ≡ Less) here (turned x y e) | inr later ↦ all_member (λ w. cmp y w ≡ Less) ys z up.0 later ]), inner)

  pub sorted-ascending : (xs : List X) → IsStrictlySortedBy cmp (ascending cmp xs)
  unfolding ascending IsStrictlySortedBy
  sorted-ascending [] = tt
  sorted-ascending (x ∷ xs) = sorted-put x (ascending cmp xs) (sorted-ascending xs)
