-- Places that pass a test.
use Rattle.std.proofs.Common.{◌≡◌, ◌==◌, ℕ, zero, suc, ◌<◌, Bool, true, false, cond, ◌||◌, ◌&&◌, List, [], ◌∷◌, length, map, filter, get_or, refl, sym, ap, ◌∙◌, arith}
use Rattle.std.specs.Prelude.{Option, Some, None}
use Rattle.std.specs.List.{slice_get, AllByRecursion}
use Rattle.std.proofs.lemmas.Bool.{false≢true, eqb-true, eq-eqb}
use Rattle.rel_path.specs.Paths.{Path}
use Rattle.workspaces.specs.Lists.{places}
use Rattle.workspaces.specs.declared.member.Package.{Package}
use Rattle.task_definitions.specs.Setup.{Setup}
use Rattle.task_inputs.specs.declared.definitions.DefinedTask.{DefinedTask}
use Rattle.task_inputs.specs.Inputs.{is_input, input_row, row_of}
use Rattle.collect.specs.Steps.{marked, in_row, inputs_at}

pub places_below : {X : Type 0} (test : X → Bool) (xs : List X) → AllByRecursion (λ k. k < length xs) (places test xs)
unfolding places
places_below test [] = tt
places_below test (x ∷ xs) = by (test x) (shifted (places test xs) (places_below test xs)) where
  shifted : (ks : List ℕ) → AllByRecursion (λ k. k < length xs) ks → AllByRecursion (λ k. k < length (x ∷ xs)) (map suc ks)
  shifted [] all = tt
  shifted (k ∷ ks) all = (let l = all.0 in omega (arith, l), shifted ks all.1)

  by : (b : Bool) → AllByRecursion (λ k. k < length (x ∷ xs)) (map suc (places test xs)) → AllByRecursion (λ k. k < length (x ∷ xs)) (cond b (zero ∷ map suc (places test xs)) (map suc (places test xs)))
  by true all = (omega arith, all)
  by false all = all

pub row_below : (ignored : Path → Bool) (setup : Setup) (packages : List Package) (walk : List Path) (t : DefinedTask) → AllByRecursion (λ k. k < length walk) (input_row ignored setup packages walk t)
row_below ignored setup packages walk t = by (slice_get packages t.owner) where
  by : (o : Option Package) → AllByRecursion (λ k. k < length walk) (row_of ignored setup packages walk t.def o)
  by None = tt
  by (Some p) = places_below (is_input ignored setup packages p t.def) walk

suc_zero : (k : ℕ) → (suc k == zero) ≡ false
suc_zero k = by (suc k == zero) refl where
  by : (b : Bool) → (suc k == zero) ≡ b → b ≡ false
  by true e = absurd (let f = eqb-true (suc k) zero e in omega (arith, f))
  by false e = refl

suc_suc : (k j : ℕ) → (suc k == suc j) ≡ (k == j)
suc_suc k j = by (suc k == suc j) refl (k == j) refl where
  by : (a : Bool) → (suc k == suc j) ≡ a → (b : Bool) → (k == j) ≡ b → a ≡ b
  by true e true f = refl
  by true e false f = absurd (false≢true (sym f ∙ eq-eqb k j (let g = eqb-true (suc k) (suc j) e in omega (arith, g))))
  by false e true f = absurd (false≢true (sym e ∙ eq-eqb (suc k) (suc j) (ap suc (eqb-true k j f))))
  by false e false f = refl

in_suc_zero : (ks : List ℕ) → in_row zero (map suc ks) ≡ false
in_suc_zero [] = refl
in_suc_zero (k ∷ ks) = ap (λ b. b || in_row zero (map suc ks)) (suc_zero k) ∙ in_suc_zero ks

in_suc : (j : ℕ) (ks : List ℕ) → in_row (suc j) (map suc ks) ≡ in_row j ks
in_suc j [] = refl
in_suc j (k ∷ ks) = ap (λ b. b || in_row (suc j) (map suc ks)) (suc_suc k j) ∙ ap (λ b. (k == j) || b) (in_suc j ks)

zero_suc : (j : ℕ) → (zero == suc j) ≡ false
zero_suc j = by (zero == suc j) refl where
  by : (b : Bool) → (zero == suc j) ≡ b → b ≡ false
  by true e = absurd (let f = eqb-true zero (suc j) e in omega (arith, f))
  by false e = refl

-- a place stands among those that pass where what stands there passes
pub in_places : {X : Type 0} (test : X → Bool) (xs : List X) (j : ℕ) (x : X) → slice_get xs j ≡ Some x → in_row j (places test xs) ≡ test x
unfolding places
in_places test [] j x at = cc
in_places test (y ∷ xs) zero x at = let same : y ≡ x = cc in ap (λ z. in_row zero (cond (test z) (zero ∷ map suc (places test xs)) (map suc (places test xs)))) same ∙ by (test x) where
  by : (b : Bool) → in_row zero (cond b (zero ∷ map suc (places test xs)) (map suc (places test xs))) ≡ b
  by true = refl
  by false = in_suc_zero (places test xs)
in_places test (y ∷ xs) (suc j) x at = by (test y) (in_suc j (places test xs) ∙ in_places test xs j x at) where
  by : (b : Bool) → in_row (suc j) (map suc (places test xs)) ≡ test x → in_row (suc j) (cond b (zero ∷ map suc (places test xs)) (map suc (places test xs))) ≡ test x
  by true e = ap (λ b. b || in_row (suc j) (map suc (places test xs))) (zero_suc j) ∙ e
  by false e = e

-- ---- what was found at those places

map_suc : (w : Path) (walk : List Path) (b : Bool) (found : List Bool) (ks : List ℕ) → inputs_at (w ∷ walk) (b ∷ found) (map suc ks) ≡ inputs_at walk found ks
map_suc w walk b found [] = refl
map_suc w walk b found (k ∷ ks) = by (marked found k) (map_suc w walk b found ks) where
  by : (m : Bool) → inputs_at (w ∷ walk) (b ∷ found) (map suc ks) ≡ inputs_at walk found ks
      → map (λ j. get_or (w ∷ walk) j []) (cond m (suc k ∷ filter (λ j. marked (b ∷ found) j) (map suc ks)) (filter (λ j. marked (b ∷ found) j) (map suc ks))) ≡ map (λ j. get_or walk j []) (cond m (k ∷ filter (λ j. marked found j) ks) (filter (λ j. marked found j) ks))
  by true e = ap (λ ps. get_or walk k [] ∷ ps) e
  by false e = e

pub inputs_are : (test g : Path → Bool) (walk : List Path) → inputs_at walk (map g walk) (places test walk) ≡ filter (λ p. g p && test p) walk
unfolding places
inputs_are test g [] = refl
inputs_are test g (w ∷ walk) = by (test w) (g w) (λ b. map_suc w walk b (map g walk) (places test walk) ∙ inputs_are test g walk) where
  by : (t b : Bool) → ((c : Bool) → inputs_at (w ∷ walk) (c ∷ map g walk) (map suc (places test walk)) ≡ filter (λ p. g p && test p) walk)
      → map (λ j. get_or (w ∷ walk) j []) (filter (λ j. marked (b ∷ map g walk) j) (cond t (zero ∷ map suc (places test walk)) (map suc (places test walk)))) ≡ cond (b && t) (w ∷ filter (λ p. g p && test p) walk) (filter (λ p. g p && test p) walk)
  by true true e = ap (λ ps. w ∷ ps) (e true)
  by true false e = e false
  by false true e = e true
  by false false e = e false
