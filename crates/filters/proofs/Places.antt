-- Places of what passes, and their bounds.
use Rattle.std.proofs.Common.{◌≡◌, ◌≢◌, ◌==◌, ◌||◌, ℕ, zero, suc, ◌+◌, ◌<◌, Bool, true, false, cond, List, [], ◌∷◌, ◌++◌, length, map, take, refl, sym, ap, ◌∙◌, arith, add-one}
use Rattle.std.specs.List.{HoldsAt}
use Rattle.workspaces.specs.declared.member.Package.{Package}
use Rattle.workspaces.specs.Edges.{has_edge}
use Rattle.workspaces.specs.Members.{leads, leads_back}
use Rattle.std.specs.Prelude.{nat_lt}
use Rattle.std.specs.List.{list_any}
use Rattle.std.proofs.lemmas.Bool.{false≢true}
use Rattle.std.proofs.lemmas.Bool.Decides.{nat_tests}
use Rattle.workspaces.specs.Lists.{places, passes_at}
use Rattle.workspaces.specs.Reach.{is_in, IsClosed, IsReached, AreBelow}
use Rattle.workspaces.proofs.Marking.{self_place}
use Rattle.workspaces.proofs.Turning.{in-places}

-- ---- places

module _ {X : Type 0} (test : X → Bool) where
  pub passes_within : (xs : List X) (q : ℕ) → passes_at test xs q ≡ true → q < length xs
  passes_within [] q is = absurd (false≢true is)
  passes_within (x ∷ xs) zero is = omega arith
  passes_within (x ∷ xs) (suc q) is = let less = passes_within xs q is in omega (arith, less)

  -- one element more
  pub places-take : (xs : List X) (q : ℕ) → q < length xs → places test (take (suc q) xs) ≡ places test (take q xs) ++ cond (passes_at test xs q) (q ∷ []) []
  unfolding places
  places-take [] q less = absurd (omega arith)
  places-take (x ∷ xs) zero less = by (test x) where
    by : (t : Bool) → cond t (zero ∷ []) [] ≡ cond t (0 ∷ []) []
    by true = refl
    by false = refl
  places-take (x ∷ xs) (suc q) less = by (test x) (ap (map suc) (places-take xs q (omega arith)) ∙ (map-two (places test (take q xs)) (cond (passes_at test xs q) (q ∷ []) []) ∙ ap (λ zs. map suc (places test (take q xs)) ++ zs) (one (passes_at test xs q)))) where
    map-two : (ms ns : List ℕ) → map suc (ms ++ ns) ≡ map suc ms ++ map suc ns
    map-two [] ns = refl
    map-two (m ∷ ms) ns = ap (λ zs. suc m ∷ zs) (map-two ms ns)

    one : (t : Bool) → map suc (cond t (q ∷ []) []) ≡ cond t (suc q ∷ []) []
    one true = refl
    one false = refl

    by : (t : Bool) → map suc (places test (take (suc q) xs)) ≡ map suc (places test (take q xs)) ++ cond (passes_at test xs q) (suc q ∷ []) [] → cond t (zero ∷ map suc (places test (take (suc q) xs))) (map suc (places test (take (suc q) xs))) ≡ cond t (zero ∷ map suc (places test (take q xs))) (map suc (places test (take q xs))) ++ cond (passes_at test xs q) (suc q ∷ []) []
    by true e = ap (λ zs. 0 ∷ zs) e
    by false e = e

  pub any_at : (xs : List X) (q : ℕ) → passes_at test xs q ≡ true → list_any test xs ≡ true
  any_at [] q is = absurd (false≢true is)
  any_at (x ∷ xs) zero is = rw is refl
  any_at (x ∷ xs) (suc q) is = by (test x) (any_at xs q is) where
    by : (t : Bool) → list_any test xs ≡ true → (t || list_any test xs) ≡ true
    by true e = refl
    by false e = e

  pub any-take : (xs : List X) (q : ℕ) → q < length xs → list_any test (take q xs) ≡ false → passes_at test xs q ≡ false → list_any test (take (suc q) xs) ≡ false
  any-take [] q less none not = refl
  any-take (x ∷ xs) zero less none not = rw not refl
  any-take (x ∷ xs) (suc q) less none not = by (test x) none (λ e. any-take xs q (omega arith) e not) where
    by : (t : Bool) → (t || list_any test (take q xs)) ≡ false → (list_any test (take q xs) ≡ false → list_any test (take (suc q) xs) ≡ false) → (t || list_any test (take (suc q) xs)) ≡ false
    by true e more = absurd (false≢true (sym e))
    by false e more = more e

-- ---- bounds

pub below_each : (count : ℕ) (ps : List ℕ) → ((p : ℕ) → is_in ps p ≡ true → p < count) → AreBelow count ps
below_each count [] each = tt
below_each count (p ∷ ps) each = (each p (rw (self_place p) refl), below_each count ps (λ q is. each q (or_right (p == q) (is_in ps q) is))) where
  or_right : (a b : Bool) → b ≡ true → (a || b) ≡ true
  or_right true b e = refl
  or_right false b e = e

pub below_places : {X : Type 0} (test : X → Bool) (xs : List X) → AreBelow (length xs) (places test xs)
below_places test xs = below_each (length xs) (places test xs) (λ p is. passes_within test xs p (sym (in-places test xs p) ∙ is))

-- the same with the code's next place
pub places_next : {X : Type 0} (test : X → Bool) (xs : List X) (q : ℕ) → q < length xs → places test (take (q + 1) xs) ≡ places test (take q xs) ++ cond (passes_at test xs q) (q ∷ []) []
places_next test xs q less = rw add-one (places-take test xs q less)

pub any_next : {X : Type 0} (test : X → Bool) (xs : List X) (q : ℕ) → q < length xs → list_any test (take q xs) ≡ false → passes_at test xs q ≡ false → list_any test (take (q + 1) xs) ≡ false
any_next test xs q less none not = rw add-one (any-take test xs q less none not)

pub passes_held : {X : Type 0} (test : X → Bool) (v : Bool) (xs : List X) (q : ℕ) → q < length xs → HoldsAt (λ x. v ≡ test x) xs q → v ≡ passes_at test xs q
passes_held test v [] q less held = absurd (omega arith)
passes_held test v (x ∷ xs) zero less held = held x
passes_held test v (x ∷ xs) (suc q) less held = passes_held test v xs q (omega arith) (λ d. held d)

-- ---- edges lead to packages

leads_within : {X Y : Type 0} (test : X → Y → Bool) (xs : List X) (ys : List Y) (p q : ℕ) → passes_at (λ x. passes_at (test x) ys q) xs p ≡ true → q < length ys
leads_within test [] ys p q is = absurd (false≢true is)
leads_within test (x ∷ xs) ys zero q is = passes_within (test x) ys q is
leads_within test (x ∷ xs) ys (suc p) q is = leads_within test xs ys p q is

less_test : (q count : ℕ) → q < count → nat_lt q count ≡ true
less_test q count less = grind (arith, nat_tests)

test_less : (q count : ℕ) → nat_lt q count ≡ true → q < count
test_less q count is = grind (arith, nat_tests, is)

reached_within : (leads : ℕ → ℕ → Bool) (count : ℕ) (from found : List ℕ) → ((p q : ℕ) → leads p q ≡ true → q < count) → IsReached leads from found → AreBelow count found
reached_within leads count from found within reached = below_each count found (λ p is. test_less p count (reached.least.1 (λ q. nat_lt q count) closed p is))
  where
    closed : IsClosed leads from (λ q. nat_lt q count)
    closed = record {
      start = λ p q is lead. less_test q count (within p q lead);
      more = λ p q is lead. less_test q count (within p q lead);
    }

pub below_within : (packages : List Package) (from found : List ℕ) → IsReached (leads packages) from found → AreBelow (length packages) found
unfolding leads
below_within packages from found = reached_within (leads packages) (length packages) from found (λ p q lead. leads_within has_edge packages packages p q lead)

pub above_within : (packages : List Package) (from found : List ℕ) → IsReached (leads_back packages) from found → AreBelow (length packages) found
unfolding leads
above_within packages from found = reached_within (leads_back packages) (length packages) from found (λ p q lead. passes_within (λ member. passes_at (has_edge member) packages p) packages q lead)
