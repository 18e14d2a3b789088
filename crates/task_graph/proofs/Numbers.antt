-- Strictly ascending numbers, by their places.
use Rattle.std.proofs.Common.{◌≡◌, ℕ, zero, suc, ◌<◌, false, List, [], ◌∷◌, refl, arith, take, get_or, length, ne_eqb}
use Rattle.std.specs.List.{AllByRecursion}
use Rattle.std.specs.List.Sorted.{IsStrictlySortedBy}
use Rattle.std.specs.declared.cmp.Ordering.TheVariants.{Less}
use Rattle.std.specs.Ordering.{nat_cmp}
use Rattle.workspaces.specs.Reach.{is_in}
use Rattle.workspaces.proofs.Lists.{less_nat}

number_at : (u : ℕ) (us : List ℕ) → AllByRecursion (λ y. nat_cmp u y ≡ Less) us → (i d : ℕ) → i < length us → u < get_or us i d
number_at u [] all i d less = absurd (omega arith)
number_at u (v ∷ us) all zero d less = less_nat u v all.0
number_at u (v ∷ us) all (suc i) d less = number_at u us all.1 i d (omega arith)

pub fresh_at : (used : List ℕ) → IsStrictlySortedBy nat_cmp used → (i d : ℕ) → i < length used → is_in (take i used) (get_or used i d) ≡ false
unfolding IsStrictlySortedBy
fresh_at [] up i d less = absurd (omega arith)
fresh_at (u ∷ used) up zero d less = refl
fresh_at (u ∷ used) up (suc i) d less =
    let above : u < get_or used i d = number_at u used up.0 i d (omega arith) in
    rw (ne_eqb u (get_or used i d) (λ e. absurd (omega (arith, above, e)))) (fresh_at used up.1 i d (omega arith))
