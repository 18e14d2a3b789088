-- Numbers of what passes, and what stands at them.
use Rattle.std.proofs.Common.{◌≡◌, ◌<◌, ℕ, zero, suc, Bool, true, false, cond, List, [], ◌∷◌, ◌++◌, length, map, filter, refl, sym, ap, ◌∙◌, arith}
use Rattle.std.specs.Prelude.{Option, Some}
use Rattle.std.specs.List.{AllByRecursion, filter_map, slice_get, cons_option}
use Rattle.std.proofs.lemmas.List.{map-append}
use Rattle.workspaces.specs.Lists.{places, passes_at}

-- ---- one further on

filter_further : (test : ℕ → Bool) (ns : List ℕ) → filter test (map suc ns) ≡ map suc (filter (λ n. test (suc n)) ns)
filter_further test [] = refl
filter_further test (n ∷ ns) = by (test (suc n)) (filter_further test ns) where
  by : (b : Bool) → filter test (map suc ns) ≡ map suc (filter (λ n. test (suc n)) ns) → cond b (suc n ∷ filter test (map suc ns)) (filter test (map suc ns)) ≡ map suc (cond b (n ∷ filter (λ n. test (suc n)) ns) (filter (λ n. test (suc n)) ns))
  by true more = ap (λ xs. suc n ∷ xs) more
  by false more = more

got_further : {X : Type 0} (get : ℕ → Option X) (ns : List ℕ) → filter_map get (map suc ns) ≡ filter_map (λ n. get (suc n)) ns
got_further get [] = refl
got_further get (n ∷ ns) = ap (cons_option (get (suc n))) (got_further get ns)

below_further : (count : ℕ) (ns : List ℕ) → AllByRecursion (λ n. n < count) ns → AllByRecursion (λ n. n < suc count) (map suc ns)
below_further count [] all = tt
below_further count (n ∷ ns) all = (omega (arith, all.0), below_further count ns all.1)

-- ---- what stands at places

module _ {X : Type 0} (test : X → Bool) where
  got_first : (x : X) (xs : List X) (get : ℕ → Option X) (at : ℕ → Bool) (of : X → Bool) → ((n : ℕ) (y : X) → slice_get (x ∷ xs) n ≡ Some y → get n ≡ Some y) → ((n : ℕ) (y : X) → slice_get (x ∷ xs) n ≡ Some y → at n ≡ of y)
      → filter_map (λ n. get (suc n)) (filter (λ n. at (suc n)) (places test xs)) ≡ filter of (filter test xs) → filter_map get (filter at (places test (x ∷ xs))) ≡ filter of (filter test (x ∷ xs))
  unfolding places
  got_first x xs get at of there same more = by (test x) where
    ns : List ℕ
    ns = places test xs

    later : filter_map get (filter at (map suc ns)) ≡ filter_map (λ n. get (suc n)) (filter (λ n. at (suc n)) ns)
    later = ap (filter_map get) (filter_further at ns) ∙ got_further get (filter (λ n. at (suc n)) ns)

    first : (a o : Bool) → a ≡ o → filter_map get (cond a (0 ∷ filter at (map suc ns)) (filter at (map suc ns))) ≡ cond o (x ∷ filter of (filter test xs)) (filter of (filter test xs))
    first false false e = later ∙ more
    first true true e = ap (λ o. cons_option o (filter_map get (filter at (map suc ns)))) (there 0 x refl) ∙ ap (λ ys. x ∷ ys) (later ∙ more)
    first true false e = cc
    first false true e = cc

    by : (t : Bool) → filter_map get (filter at (cond t (0 ∷ map suc ns) (map suc ns))) ≡ filter of (cond t (x ∷ filter test xs) (filter test xs))
    by false = later ∙ more
    by true = first (at 0) (of x) (same 0 x refl)

  -- with a test of the numbers and the same one of what stands there
  pub got_places : (xs : List X) (get : ℕ → Option X) (at : ℕ → Bool) (of : X → Bool) → ((n : ℕ) (x : X) → slice_get xs n ≡ Some x → get n ≡ Some x) → ((n : ℕ) (x : X) → slice_get xs n ≡ Some x → at n ≡ of x)
      → filter_map get (filter at (places test xs)) ≡ filter of (filter test xs)
  unfolding places
  got_places [] get at of there same = refl
  got_places (x ∷ xs) get at of there same = got_first x xs get at of there same (got_places xs (λ n. get (suc n)) (λ n. at (suc n)) of (λ n y e. there (suc n) y e) (λ n y e. same (suc n) y e))

  pub got_all : (xs : List X) (get : ℕ → Option X) → ((n : ℕ) (x : X) → slice_get xs n ≡ Some x → get n ≡ Some x) → filter_map get (places test xs) ≡ filter test xs
  got_all xs get there = ap (filter_map get) (sym (all_pass (places test xs))) ∙ got_places xs get (λ n. true) (λ x. true) there (λ n x e. refl) ∙ all_pass (filter test xs) where
    all_pass : {Y : Type 0} (ys : List Y) → filter (λ y. true) ys ≡ ys
    all_pass [] = refl
    all_pass (y ∷ ys) = ap (λ zs. y ∷ zs) (all_pass ys)

  pub below_places : (xs : List X) → AllByRecursion (λ n. n < length xs) (places test xs)
  unfolding places
  below_places [] = tt
  below_places (x ∷ xs) = by (test x) (below_further (length xs) (places test xs) (below_places xs)) where
    by : (t : Bool) → AllByRecursion (λ n. n < suc (length xs)) (map suc (places test xs)) → AllByRecursion (λ n. n < suc (length xs)) (cond t (0 ∷ map suc (places test xs)) (map suc (places test xs)))
    by true all = (omega arith, all)
    by false all = all

  -- with one more behind
  pub places_behind : (xs : List X) (y : X) → places test (xs ++ y ∷ []) ≡ places test xs ++ cond (test y) (length xs ∷ []) []
  unfolding places
  places_behind [] y = refl
  places_behind (x ∷ xs) y = by (test x) (ap (map suc) (places_behind xs y) ∙ map-append suc (places test xs) (cond (test y) (length xs ∷ []) []) ∙ ap (λ ns. map suc (places test xs) ++ ns) (last (test y))) where
    last : (t : Bool) → map suc (cond t (length xs ∷ []) []) ≡ cond t (length (x ∷ xs) ∷ []) []
    last true = refl
    last false = refl

    by : (t : Bool) → map suc (places test (xs ++ y ∷ [])) ≡ map suc (places test xs) ++ cond (test y) (length (x ∷ xs) ∷ []) []
        → cond t (0 ∷ map suc (places test (xs ++ y ∷ []))) (map suc (places test (xs ++ y ∷ []))) ≡ cond t (0 ∷ map suc (places test xs)) (map suc (places test xs)) ++ cond (test y) (length (x ∷ xs) ∷ []) []
    by true more = ap (λ ns. 0 ∷ ns) more
    by false more = more

-- ---- at a number

module _ {X : Type 0} where
  pub slot_front : (xs ys : List X) (n : ℕ) (x : X) → slice_get xs n ≡ Some x → slice_get (xs ++ ys) n ≡ Some x
  slot_front [] ys n x e = cc
  slot_front (z ∷ xs) ys zero x e = e
  slot_front (z ∷ xs) ys (suc n) x e = slot_front xs ys n x e

  pub slot_behind : (xs : List X) (y : X) → slice_get (xs ++ y ∷ []) (length xs) ≡ Some y
  slot_behind [] y = refl
  slot_behind (x ∷ xs) y = slot_behind xs y

  pub passes_there : (test : X → Bool) (xs : List X) (n : ℕ) (x : X) → slice_get xs n ≡ Some x → passes_at test xs n ≡ test x
  passes_there test [] n x e = cc
  passes_there test (z ∷ xs) zero x e = let same : z ≡ x = cc in ap test same
  passes_there test (z ∷ xs) (suc n) x e = passes_there test xs n x e

  pub passes_behind : (test : X → Bool) (xs : List X) → passes_at test xs (length xs) ≡ false
  passes_behind test [] = refl
  passes_behind test (x ∷ xs) = passes_behind test xs

  pub filter_swap : (p q : X → Bool) (xs : List X) → filter p (filter q xs) ≡ filter q (filter p xs)
  filter_swap p q [] = refl
  filter_swap p q (x ∷ xs) = by (p x) refl (q x) refl (filter_swap p q xs) where
    by : (a : Bool) → p x ≡ a → (b : Bool) → q x ≡ b → filter p (filter q xs) ≡ filter q (filter p xs) → filter p (cond b (x ∷ filter q xs) (filter q xs)) ≡ filter q (cond a (x ∷ filter p xs) (filter p xs))
    by true e true f more = rw (e, f) (ap (λ ys. x ∷ ys) more)
    by true e false f more = rw f more
    by false e true f more = rw e more
    by false e false f more = more

  pub filter_none : (xs : List X) → filter (λ x. false) xs ≡ []
  filter_none [] = refl
  filter_none (x ∷ xs) = filter_none xs
