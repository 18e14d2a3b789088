-- Names, looked up in lists that ascend by them.
use Rattle.std.proofs.Common.{◌≡◌, ◌≢◌, ◌&&◌, ◌||◌, ◌⊎◌, inl, inr, ℕ, zero, suc, ◌<◌, ◌≤◌, Bool, true, false, List, [], ◌∷◌, length, get_or, map, refl, sym, ap, ◌∙◌, subst, arith, eqb, nat_lt}
use Rattle.std.specs.Prelude.{Some, None, bytes_eq}
use Rattle.std.specs.List.{AllByRecursion, All, list_any}
use Rattle.std.specs.List.Sorted.{IsStrictlySortedBy, IsNonDecreasingBy, IsPartitionPoint}
use Rattle.std.specs.declared.cmp.Ordering.{Ordering}
use Rattle.std.specs.declared.cmp.Ordering.TheVariants.{Less, Equal, Greater}
use Rattle.std.specs.Ordering.{ordering_index, is_eq}
use Rattle.std.specs.Cmp.Lexicographic.{nat_list_cmp_total}
use Rattle.std.proofs.lemmas.Bool.Decides.{eqb_tells, nat_tests}
use Rattle.std.proofs.lemmas.Map.Text.{is_eq-slice_cmp}
use Rattle.std.proofs.lemmas.Slice.Eq.{bytes_eq-Decides}
use Rattle.rel_path.specs.Paths.{name_cmp}
use Rattle.rel_path.proofs.PathLaws.{name_cmp_self}
use Rattle.workspaces.specs.Edges.{text_by}

pub same_name : (a b : List ℕ) → bytes_eq a b ≡ true → a ≡ b
same_name a b e = (bytes_eq-Decides a b).0 e

pub self_name : (a : List ℕ) → bytes_eq a a ≡ true
self_name a = (bytes_eq-Decides a a).1 refl

pub other_name : (a b : List ℕ) → a ≢ b → bytes_eq a b ≡ false
other_name a b apart = by (bytes_eq a b) refl where
  by : (t : Bool) → bytes_eq a b ≡ t → t ≡ false
  by true e = absurd (apart (same_name a b e))
  by false e = refl

pub name_tied : (a b : List ℕ) → name_cmp a b ≡ Equal → a ≡ b
name_tied a b e = (bytes_eq-Decides a b).0 (sym (is_eq-slice_cmp a b) ∙ ap is_eq e)

pub less_apart : (a b : List ℕ) → name_cmp a b ≡ Less → a ≢ b
less_apart a b less same = let self : name_cmp b b ≡ Equal = name_cmp_self b in let below : name_cmp b b ≡ Less = subst (λ w. name_cmp w b ≡ Less) same less in absurd (cc)

greater_apart : (a b : List ℕ) → name_cmp a b ≡ Greater → a ≢ b
greater_apart a b more same = let self : name_cmp b b ≡ Equal = name_cmp_self b in let above : name_cmp b b ≡ Greater = subst (λ w. name_cmp w b ≡ Greater) same more in absurd (cc)

index_le : (a b x : List ℕ) → name_cmp a b ≡ Less → ordering_index (name_cmp a x) ≤ ordering_index (name_cmp b x)
index_le a b x less = by (name_cmp b x) refl where
  at_most : (r : Ordering) → ordering_index r ≤ 2
  at_most Less = omega arith
  at_most Equal = omega arith
  at_most Greater = omega arith

  by : (r : Ordering) → name_cmp b x ≡ r → ordering_index (name_cmp a x) ≤ ordering_index r
  by Less e = let below : name_cmp a x ≡ Less = nat_list_cmp_total.trans a b x less e in rw below (omega arith)
  by Equal e = let below : name_cmp a x ≡ Less = subst (λ w. name_cmp a w ≡ Less) (name_tied b x e) less in rw below (omega arith)
  by Greater e = at_most (name_cmp a x)

module _ {X : Type 0} (key : X → List ℕ) where
  all_at : (P : List ℕ → Type 0) (xs : List X) → AllByRecursion P (map key xs) → (j : ℕ) (d : X) → j < length xs → P (key (get_or xs j d))
  all_at P [] all j d less = absurd (omega arith)
  all_at P (x ∷ xs) all zero d less = all.0
  all_at P (x ∷ xs) all (suc j) d less = all_at P xs all.1 j d (omega arith)

  -- names further on are greater
  pub rises : (xs : List X) → IsStrictlySortedBy name_cmp (map key xs) → (i j : ℕ) (d : X) → i < j → j < length xs → name_cmp (key (get_or xs i d)) (key (get_or xs j d)) ≡ Less
  unfolding IsStrictlySortedBy
  rises [] up i j d before less = absurd (omega arith)
  rises (x ∷ xs) up i zero d before less = absurd (omega arith)
  rises (x ∷ xs) up zero (suc j) d before less = all_at (λ y. name_cmp (key x) y ≡ Less) xs up.0 j d (omega arith)
  rises (x ∷ xs) up (suc i) (suc j) d before less = rises xs up.1 i j d (omega arith) (omega arith)

  pub searchable : (name : List ℕ) (xs : List X) → IsStrictlySortedBy name_cmp (map key xs) → IsNonDecreasingBy (λ y. ordering_index (name_cmp (key y) name)) xs
  searchable name xs up i j d le less = by (eqb_tells i j) where
    by : ((eqb i j ≡ true) × (i ≡ j)) ⊎ ((eqb i j ≡ false) × (i ≢ j)) → ordering_index (name_cmp (key (get_or xs i d)) name) ≤ ordering_index (name_cmp (key (get_or xs j d)) name)
    by (inl same) = rw same.1 (omega arith)
    by (inr other) = let before : i < j = omega (arith, other.1) in index_le (key (get_or xs i d)) (key (get_or xs j d)) name (rises xs up i j d before less)

  -- what a search that finds none says
  pub none_named : (name : List ℕ) (xs : List X) (i : ℕ) → IsPartitionPoint (λ y. name_cmp (key y) name ≡ Less) (λ y. name_cmp (key y) name ≡ Greater) xs i → All (λ y. key y ≢ name) xs
  none_named name xs i parts k d less = by (nat_lt k i) refl where
    by : (t : Bool) → nat_lt k i ≡ t → key (get_or xs k d) ≢ name
    by true e = less_apart (key (get_or xs k d)) name (parts.0 k d (omega arith) (grind (arith, nat_tests, e)))
    by false e = greater_apart (key (get_or xs k d)) name (parts.1 k d (grind (arith, nat_tests, e)) less)

  all_tail : (P : X → Type 0) (x : X) (xs : List X) → All P (x ∷ xs) → All P xs
  all_tail P x xs all k d less = all (suc k) d (omega arith)

  pub any_none : (name : List ℕ) (test : X → Bool) (xs : List X) → All (λ y. key y ≢ name) xs → list_any (λ y. bytes_eq (key y) name && test y) xs ≡ false
  any_none name test [] none = refl
  any_none name test (x ∷ xs) none = rw (other_name (key x) name (none 0 x (omega arith))) (any_none name test xs (all_tail (λ y. key y ≢ name) x xs none))

  above_none : (x : X) (xs : List X) → AllByRecursion (λ y. name_cmp (key x) y ≡ Less) (map key xs) → All (λ y. key y ≢ key x) xs
  above_none x xs all k d less same = less_apart (key x) (key (get_or xs k d)) (all_at (λ y. name_cmp (key x) y ≡ Less) xs all k d less) (sym same)

  or_none : (t : Bool) → (t || false) ≡ t
  or_none true = refl
  or_none false = refl

  -- a test of the one that has the name
  pub any_named : (name : List ℕ) (test : X → Bool) (xs : List X) → IsStrictlySortedBy name_cmp (map key xs) → (i : ℕ) (d : X) → i < length xs → key (get_or xs i d) ≡ name → list_any (λ y. bytes_eq (key y) name && test y) xs ≡ test (get_or xs i d)
  unfolding IsStrictlySortedBy
  any_named name test [] up i d less is = absurd (omega arith)
  any_named name test (x ∷ xs) up zero d less is =
      let none : All (λ y. key y ≢ name) xs = subst (λ n. All (λ y. key y ≢ n) xs) is (above_none x xs up.0) in
      let here : bytes_eq (key x) name ≡ true = rw is (self_name name) in
      rw (here, any_none name test xs none) (or_none (test x))
  any_named name test (x ∷ xs) up (suc i) d less is =
      let later : name_cmp (key x) (key (get_or xs i d)) ≡ Less = all_at (λ y. name_cmp (key x) y ≡ Less) xs up.0 i d (omega arith) in
      let apart : bytes_eq (key x) name ≡ false = other_name (key x) name (λ same. less_apart (key x) (key (get_or xs i d)) later (same ∙ sym is)) in
      rw apart (any_named name test xs up.1 i d (omega arith) is)

-- ---- texts by names

pub text_none : (name : List ℕ) (pairs : List (List ℕ × List ℕ)) → All (λ p. p.0 ≢ name) pairs → text_by name pairs ≡ None
text_none name [] none = refl
text_none name (p ∷ pairs) none = rw (other_name p.0 name (none 0 p (omega arith))) (text_none name pairs (λ k d less. none (suc k) d (omega arith)))

pub text_named : (name : List ℕ) (pairs : List (List ℕ × List ℕ)) → IsStrictlySortedBy name_cmp (map (λ p. p.0) pairs) → (i : ℕ) (d : List ℕ × List ℕ) → i < length pairs → (get_or pairs i d).0 ≡ name → text_by name pairs ≡ Some (get_or pairs i d).1
unfolding IsStrictlySortedBy
text_named name [] up i d less is = absurd (omega arith)
text_named name (p ∷ pairs) up zero d less is = let here : bytes_eq p.0 name ≡ true = rw is (self_name name) in rw here refl
text_named name (p ∷ pairs) up (suc i) d less is =
    let later : name_cmp p.0 (get_or pairs i d).0 ≡ Less = all_at (λ (q : List ℕ × List ℕ). q.0) (λ y. name_cmp p.0 y ≡ Less) pairs up.0 i d (omega arith) in
    let apart : bytes_eq p.0 name ≡ false = other_name p.0 name (λ same. less_apart p.0 (get_or pairs i d).0 later (same ∙ sym is)) in
    rw apart (text_named name pairs up.1 i d (omega arith) is)
