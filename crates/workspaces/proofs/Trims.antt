-- Texts without a dot in front or a slash at the end.
use Rattle.std.proofs.Common.{◌≡◌, ◌≢◌, ◌==◌, ◌&&◌, ℕ, true, false, cond, List, [], ◌∷◌, ◌++◌, refl, ap, subst, arith, Option, Some, None, Bor}
use Rattle.std.specs.Option.{MatchOption}
use Rattle.std.proofs.lemmas.Bool.Decides.{nat_tests}
use Rattle.workspaces.specs.Entries.{without_dot, without_slash}

pub dot_kept : (text : List ℕ) → ((rest : List ℕ) → text ≢ 46 ∷ rest) → without_dot text ≡ text
dot_kept [] other = refl
dot_kept (b ∷ []) other = refl
dot_kept (b ∷ c ∷ bs) other =
    elim (b == 46) as (λ t. (b == 46) ≡ t → cond (t && c == 47) bs (b ∷ c ∷ bs) ≡ b ∷ c ∷ bs) [
      | true ↦ λ e. let is : b ≡ 46 = grind (arith, nat_tests, e) in absurd (other (c ∷ bs) (ap (λ x. x ∷ c ∷ bs) is))
      | false ↦ λ e. refl
    ] refl

pub dot_alone : (text rest : List ℕ) → text ≡ 46 ∷ rest → ((more : List ℕ) → rest ≢ 47 ∷ more) → without_dot text ≡ text
dot_alone text [] e other = rw e refl
dot_alone text (c ∷ bs) e other =
    rw e (elim (c == 47) as (λ t. (c == 47) ≡ t → cond t bs (46 ∷ c ∷ bs) ≡ 46 ∷ c ∷ bs) [
      | true ↦ λ s. let is : c ≡ 47 = grind (arith, nat_tests, s) in absurd (other bs (ap (λ x. x ∷ bs) is))
      | false ↦ λ s. refl
    ] refl)

pub dot_dropped : (text rest more : List ℕ) → text ≡ 46 ∷ rest → rest ≡ 47 ∷ more → without_dot text ≡ more
dot_dropped text rest more e s = rw (e, s) refl

pub slash_dropped : (front : List ℕ) → without_slash (front ++ 47 ∷ []) ≡ front
slash_dropped [] = refl
slash_dropped (b ∷ []) = refl
slash_dropped (b ∷ c ∷ bs) = ap (λ x. b ∷ x) (slash_dropped (c ∷ bs))

pub slash_kept : (text : List ℕ) → ((front : List ℕ) → text ≢ front ++ 47 ∷ []) → without_slash text ≡ text
slash_kept [] other = refl
slash_kept (b ∷ []) other =
    elim (b == 47) as (λ t. (b == 47) ≡ t → cond t [] (b ∷ []) ≡ b ∷ []) [
      | true ↦ λ e. let is : b ≡ 47 = grind (arith, nat_tests, e) in absurd (other [] (ap (λ x. x ∷ []) is))
      | false ↦ λ e. refl
    ] refl
slash_kept (b ∷ c ∷ bs) other = ap (λ x. b ∷ x) (slash_kept (c ∷ bs) (λ front e. other (b ∷ front) (ap (λ x. b ∷ x) e)))

-- what a strip at the front or the end told
pub not_found : (r : Option (Bor (List ℕ))) (N : Type 0) (S : Bor (List ℕ) → Type 0) → MatchOption r N S → r ≡ None → N
not_found None N S h e = h
not_found (Some x) N S h e = cc

pub was_found : (r : Option (Bor (List ℕ))) (N : Type 0) (S : Bor (List ℕ) → Type 0) (x : Bor (List ℕ)) → MatchOption r N S → r ≡ Some x → S x
was_found None N S x h e = cc
was_found (Some y) N S x h e = let same : y ≡ x = cc in subst S same h
