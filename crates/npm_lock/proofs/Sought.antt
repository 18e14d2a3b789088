-- What a search in ascending texts answers.
use Rattle.std.proofs.Common.{◌≡◌, ◌⊎◌, inl, inr, ◌<◌, ◌≤◌, ℕ, zero, suc, Bool, true, false, ◌||◌, List, [], ◌∷◌, length, get_or, Result, Ok, Err, is_ok, Ordering, Less, Greater, is_eq, refl, sym, ap, ◌∙◌, arith}
use Rattle.std.specs.List.{list_any}
use Rattle.std.specs.List.Sorted.{IsSorted, IsBinarySearchResult, IsSearchInRange, IsPartitionPoint}
use Rattle.std.proofs.lemmas.Bool.{cases_lt}
use Rattle.std.proofs.lemmas.Cmp.{nat_list_cmp_total, tied_itself}
use Rattle.std.proofs.lemmas.List.Sorted.{searchable_from_sorted}
use Rattle.rel_path.specs.Paths.{name_cmp, name_eq}
use Rattle.rel_path.proofs.PathLaws.{name_same, name_self}
use Rattle.npm_lock.proofs.Numbers.{tied_same}

any_at : (x : List ℕ) (xs : List (List ℕ)) (i : ℕ) → i < length xs → ((d : List ℕ) → get_or xs i d ≡ x) → list_any (name_eq x) xs ≡ true
any_at x [] i lt is = absurd (omega (arith, lt))
any_at x (y ∷ xs) zero lt is = rw (is y) (rw (name_self x) refl)
any_at x (y ∷ xs) (suc i) lt is = by (name_eq x y) (any_at x xs i (omega (arith, lt)) is) where
  by : (b : Bool) → list_any (name_eq x) xs ≡ true → (b || list_any (name_eq x) xs) ≡ true
  by true e = refl
  by false e = e

any_none : (x : List ℕ) (xs : List (List ℕ)) → ((k : ℕ) (d : List ℕ) → k < length xs → name_eq x (get_or xs k d) ≡ false) → list_any (name_eq x) xs ≡ false
any_none x [] none = refl
any_none x (y ∷ xs) none = rw (none 0 y (omega arith)) (any_none x xs (λ k d lt. none (suc k) d (omega (arith, lt))))

unlike : (x y : List ℕ) (o : Ordering) → name_cmp y x ≡ o → is_eq o ≡ false → (b : Bool) → name_eq x y ≡ b → b ≡ false
unlike x y o e other true same = absurd (let s : x ≡ y = name_same x y same in let z : is_eq o ≡ true = ap is_eq (sym e ∙ ap (λ t. name_cmp t x) (sym s) ∙ tied_itself nat_list_cmp_total x) in let w : false ≡ true = sym other ∙ z in cc)
unlike x y o e other false same = refl

pub sought : (xs : List (List ℕ)) (x : List ℕ) (r : Result ℕ ℕ) → IsSorted name_cmp xs → IsSearchInRange r (length xs) → IsBinarySearchResult (λ y. name_cmp y x) xs r → is_ok r ≡ list_any (name_eq x) xs
sought xs x (Ok i) sorted bound at = sym (any_at x xs i bound (λ d. tied_same (get_or xs i d) x (at d)))
sought xs x (Err i) sorted bound at = sym (any_none x xs (λ k d lt. none k d lt (cases_lt k i))) where
  parts : IsPartitionPoint (λ y. name_cmp y x ≡ Less) (λ y. name_cmp y x ≡ Greater) xs i
  parts = at (searchable_from_sorted nat_list_cmp_total (λ y. y) xs x sorted)

  none : (k : ℕ) (d : List ℕ) → k < length xs → (k < i) ⊎ (i ≤ k) → name_eq x (get_or xs k d) ≡ false
  none k d lt (inl below) = unlike x (get_or xs k d) Less (parts.0 k d (omega arith) below) refl (name_eq x (get_or xs k d)) refl
  none k d lt (inr past) = unlike x (get_or xs k d) Greater (parts.1 k d past lt) refl (name_eq x (get_or xs k d)) refl
