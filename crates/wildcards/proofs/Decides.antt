-- The test `spells` decides the relation `Spells`.
use Rattle.std.proofs.Common.{◌≡◌, ◌≤◌, ◌↔◌, ℕ, suc, zero, Bool, true, false, ◌&&◌, ◌||◌, List, [], ◌∷◌, length, drop, refl, sym, arith, IsTrue, MatchBool, if◌then◌else◌}
use Rattle.wildcards.specs.Spells.{AfterSome, AfterOne, Spells, is_empty, after_some, after_one, spells}

-- two tests of one fact are equal
pub same_test : {P : Type 0} (a b : Bool) → IsTrue a ↔ P → IsTrue b ↔ P → a ≡ b
same_test true true f g = refl
same_test false false f g = refl
same_test true false f g = sym (g.1 (f.0 refl))
same_test false true f g = f.1 (g.0 refl)

pub and_decides : {P Q : Type 0} (a b : Bool) → IsTrue a ↔ P → IsTrue b ↔ Q → IsTrue (a && b) ↔ (P × Q)
and_decides true b f g = (λ t. (f.0 refl, g.0 t), λ p. g.1 p.1)
and_decides false b f g = (λ t. cc, λ p. f.1 p.0)

is_empty_decides : {E : Type 0} (es : List E) → IsTrue (is_empty es) ↔ (es ≡ [])
is_empty_decides [] = (λ t. refl, λ e. refl)
is_empty_decides (e ∷ es) = (λ t. cc, λ e. cc)

pub after_some_decides : {E : Type 0} (rest : List E → Bool) (Rest : List E → Type 0) → ((es : List E) → IsTrue (rest es) ↔ Rest es) → (es : List E) → IsTrue (after_some rest es) ↔ AfterSome Rest es
after_some_decides rest Rest h [] = (λ t. (0, omega arith, (h []).0 t), λ s. none s.0 s.2)
  where
    none : (n : ℕ) → Rest (drop n []) → IsTrue (rest [])
    none zero r = (h []).1 r
    none (suc n) r = (h []).1 r
after_some_decides rest Rest h (e ∷ es) = by (rest (e ∷ es)) (h (e ∷ es)) (after_some_decides rest Rest h es)
  where
    later : AfterSome Rest es → AfterSome Rest (e ∷ es)
    later s = (suc s.0, omega (arith, s.1), s.2)

    by : (b : Bool) → IsTrue b ↔ Rest (e ∷ es) → IsTrue (after_some rest es) ↔ AfterSome Rest es → IsTrue (b || after_some rest es) ↔ AfterSome Rest (e ∷ es)
    by true now more = (λ t. (0, omega arith, now.0 refl), λ s. refl)
    by false now more = (λ t. later (more.0 t), λ s. one_of s.0 s.1 s.2)
      where
        one_of : (n : ℕ) → n ≤ length (e ∷ es) → Rest (drop n (e ∷ es)) → IsTrue (after_some rest es)
        one_of zero le r = absurd (let t = now.1 r in cc)
        one_of (suc n) le r = more.1 (n, omega arith, r)

after_one_decides : {E : Type 0} (takes : E → Bool) (Takes : E → Type 0) (rest : List E → Bool) (Rest : List E → Type 0) → ((e : E) → IsTrue (takes e) ↔ Takes e) → ((es : List E) → IsTrue (rest es) ↔ Rest es) → (es : List E) → IsTrue (after_one takes rest es) ↔ AfterOne Takes Rest es
after_one_decides takes Takes rest Rest one h [] = (λ t. cc, λ s. absurd s)
after_one_decides takes Takes rest Rest one h (e ∷ es) = and_decides (takes e) (rest es) (one e) (h es)

pub spells_decides : {I E : Type 0} (is_run : I → Bool) (takes : I → E → Bool) (Takes : I → E → Type 0) → ((i : I) (e : E) → IsTrue (takes i e) ↔ Takes i e) → (is : List I) (es : List E) → IsTrue (spells is_run takes is es) ↔ Spells is_run Takes is es
spells_decides is_run takes Takes one [] es = is_empty_decides es
spells_decides {E = E} is_run takes Takes one (i ∷ is) es = by (is_run i) (spells_decides is_run takes Takes one is)
  where
    by : (b : Bool) → ((rest : List E) → IsTrue (spells is_run takes is rest) ↔ Spells is_run Takes is rest) → IsTrue (if b then after_some (spells is_run takes is) es else after_one (takes i) (spells is_run takes is) es) ↔ MatchBool b (AfterSome (Spells is_run Takes is) es) (AfterOne (Takes i) (Spells is_run Takes is) es)
    by true h = after_some_decides (spells is_run takes is) (Spells is_run Takes is) h es
    by false h = after_one_decides (takes i) (Takes i) (spells is_run takes is) (Spells is_run Takes is) (one i) h es
