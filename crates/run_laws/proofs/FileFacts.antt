-- Two lists of files in ascending order that are one map are one list.
use Rattle.std.proofs.Common.{◌≡◌, ℕ, true, false, List, [], ◌∷◌, refl, sym, ap, ◌∙◌, inl, inr, ◌⊎◌, Some, None, Ordering, Less, Equal, Greater, is_lt}
use Rattle.std.specs.List.{AllByRecursion}
use Rattle.std.specs.Ordering.{ordering_reverse}
use Rattle.std.specs.FinMap.{slice_cmp-IsAntisymmetric, nat_cmp-IsAntisymmetric}
use Rattle.std.proofs.lemmas.Cmp.{tied_itself}
use Rattle.std.proofs.lemmas.Bool.{cases_Bool, true≢false, false≢true, false_from_ne_true}
use Rattle.rel_path.specs.Paths.{Path, path_eq, path_cmp}
use Rattle.rel_path.specs.Files.{file_at}
use Rattle.rel_path.proofs.PathLaws.{path_cmp_total, path_same, path_self}
use Rattle.spawn_dev.specs.Orders.{IsBefore, AscendByPath}
use Rattle.run_laws.specs.FoundLaws.{FilesDiffer}

abbrev Files : Type 0
Files = List (Path × List ℕ)

lt-not-eq : (a b : Path) → IsBefore a b → path_eq a b ≡ false
lt-not-eq a b h =
    false_from_ne_true (path_eq a b) (λ e.
    let same : a ≡ b = path_same a b e in
    false≢true (ap is_lt (sym (tied_itself path_cmp_total b)) ∙ ap (λ x. is_lt (path_cmp x b)) (sym same) ∙ h))

eq-turned : (a b : Path) → path_eq a b ≡ false → path_eq b a ≡ false
eq-turned a b h = false_from_ne_true (path_eq b a) (λ e. true≢false (sym (ap (λ x. path_eq x b) (sym (path_same b a e)) ∙ path_self b) ∙ h))

three : (a b : Path) → (a ≡ b) ⊎ ((IsBefore a b) ⊎ (IsBefore b a))
three a b = by (path_cmp a b) (path_cmp b a) refl refl (path_cmp_total.antisymm a b)
  where
    by : (r s : Ordering) → path_cmp a b ≡ r → path_cmp b a ≡ s → path_cmp a b ≡ ordering_reverse (path_cmp b a) → (a ≡ b) ⊎ ((IsBefore a b) ⊎ (IsBefore b a))
    by Less s p q e = inr (inl (ap is_lt p))
    by Equal s p q e = inl (slice_cmp-IsAntisymmetric (slice_cmp-IsAntisymmetric nat_cmp-IsAntisymmetric) a b p)
    by Greater Less p q e = inr (inr (ap is_lt q))
    by Greater Equal p q e = absurd (let k : Greater ≡ Equal = sym p ∙ e ∙ ap ordering_reverse q in cc)
    by Greater Greater p q e = absurd (let k : Greater ≡ Less = sym p ∙ e ∙ ap ordering_reverse q in cc)

lt-far : (a b : Path) (fs : Files) → IsBefore a b → AllByRecursion (λ f. IsBefore b f.0) fs → AllByRecursion (λ f. IsBefore a f.0) fs
lt-far a b [] h all = tt
lt-far a b (f ∷ fs) h all = (less-trans a b f.0 h all.0, lt-far a b fs h all.1)
  where
    is-less : (r : Ordering) → is_lt r ≡ true → r ≡ Less
    is-less Less h = refl
    is-less Equal h = absurd (false≢true h)
    is-less Greater h = absurd (false≢true h)

    less-trans : (x y z : Path) → IsBefore x y → IsBefore y z → IsBefore x z
    less-trans x y z p q = ap is_lt (path_cmp_total.trans x y z (is-less (path_cmp x y) p) (is-less (path_cmp y z) q))

-- no file where all stand above
none-at : (path : Path) (fs : Files) → AllByRecursion (λ f. IsBefore path f.0) fs → file_at fs path ≡ None
none-at path [] all = refl
none-at path (f ∷ fs) all = rw (eq-turned path f.0 (lt-not-eq path f.0 all.0)) (none-at path fs all.1)

first-at : (x : Path × List ℕ) (xs : Files) → file_at (x ∷ xs) x.0 ≡ Some x.1
first-at x xs = rw (path_self x.0) refl

some-none : (x : List ℕ) → Some x ≡ None → ⊥
some-none x h = cc

same-list : (xs ys : Files) → AscendByPath xs → AscendByPath ys → ((path : Path) → file_at xs path ≡ file_at ys path) → xs ≡ ys
same-list [] [] a b same = refl
same-list [] (y ∷ ys) a b same = absurd (some-none y.1 (sym (first-at y ys) ∙ sym (same y.0)))
same-list (x ∷ xs) [] a b same = absurd (some-none x.1 (sym (first-at x xs) ∙ same x.0))
same-list (x ∷ xs) (y ∷ ys) a b same =
    elim (three x.0 y.0) [
      | inl e ↦
          let here : Some x.1 ≡ Some y.1 = sym (first-at x xs) ∙ same x.0 ∙ ap (file_at (y ∷ ys)) e ∙ first-at y ys in
          let bytes : x.1 ≡ y.1 = cc in
          let rest = same-list xs ys a.1 b.1 (λ path. tail e path) in
          (λ j. (e j, bytes j) ∷ rest j)
      | inr (inl l) ↦ absurd (some-none x.1 (sym (first-at x xs) ∙ same x.0 ∙ none-at x.0 (y ∷ ys) (l, lt-far x.0 y.0 ys l b.0)))
      | inr (inr l) ↦ absurd (some-none y.1 (sym (first-at y ys) ∙ sym (same y.0) ∙ none-at y.0 (x ∷ xs) (l, lt-far y.0 x.0 xs l a.0)))
    ]
  where
    tail : x.0 ≡ y.0 → (path : Path) → file_at xs path ≡ file_at ys path
    tail e path =
        elim (cases_Bool (path_eq x.0 path)) [
          | inl t ↦
              let is : x.0 ≡ path = path_same x.0 path t in
              ap (file_at xs) (sym is) ∙ none-at x.0 xs a.0 ∙ sym (none-at y.0 ys b.0) ∙ ap (file_at ys) (sym e ∙ is)
          | inr f ↦
              let g : path_eq y.0 path ≡ false = ap (λ p. path_eq p path) (sym e) ∙ f in
              sym (rw f refl) ∙ same path ∙ rw g refl
        ]

pub files_law_lem : FilesDiffer
files_law_lem xs ys a b same = same-list xs ys a b same
