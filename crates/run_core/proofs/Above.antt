-- Ancestors.
use Rattle.std.proofs.Common.{◌≡◌, ℕ, zero, suc, ◌<◌, ◌≤◌, ◌==◌, ◌||◌, true, false, [], refl, sym, ap, ◌∙◌, arith, inl, inr}
use Rattle.std.specs.List.{list_any}
use Rattle.std.proofs.lemmas.Bool.{or_cases, eqb-true, false≢true}
use Rattle.run_core.specs.Greedy.{Rules, AreLower}
use Rattle.run_core.specs.Machine.{leads, is_above}
use Rattle.run_core.proofs.Any.{any_none, any_agree, any_gives}

pub leads-lower : (g : Rules) → AreLower g → (n t a : ℕ) → leads g n t a ≡ true → a < t
leads-lower g low zero t a r = absurd (false≢true r)
leads-lower g low (suc n) t a r =
    any_gives (λ d. d < t) _ (a < t)
    (λ d k u. elim (or_cases (d == a) (leads g n d a) u) [ inl e ↦ let q = eqb-true d a e in omega arith | inr v ↦ let q = leads-lower g low n d a v in omega arith ])
    (g.deps t) (low t) r

leads-enough : (g : Rules) → AreLower g → (n m t a : ℕ) → t ≤ n → t ≤ m → leads g n t a ≡ leads g m t a
leads-enough g low zero zero t a ln lm = refl
leads-enough g low zero (suc m) t a ln lm = sym (any_none (λ d. d < t) _ (λ d b. absurd (omega arith)) (g.deps t) (low t))
leads-enough g low (suc n) zero t a ln lm = any_none (λ d. d < t) _ (λ d b. absurd (omega arith)) (g.deps t) (low t)
leads-enough g low (suc n) (suc m) t a ln lm = any_agree (λ d. d < t) _ _ (λ d b. ap (λ r. (d == a) || r) (leads-enough g low n m d a (omega arith) (omega arith))) (g.deps t) (low t)

-- the ancestors of a task are its dependencies and theirs
pub above-deps : (g : Rules) → AreLower g → (t a : ℕ) → is_above g t a ≡ list_any (λ d. (d == a) || is_above g d a) (g.deps t)
above-deps g low t a = leads-enough g low t (suc t) t a (omega arith) (omega arith) ∙ any_agree (λ d. d < t) _ _ (λ d b. ap (λ r. (d == a) || r) (leads-enough g low t d d a (omega arith) (omega arith))) (g.deps t) (low t)

-- nothing stands above or below what has no dependencies
pub above-none : (g : Rules) (t a : ℕ) → g.deps t ≡ [] → is_above g t a ≡ false
above-none g zero a e = refl
above-none g (suc t) a e = ap (list_any (λ d. (d == a) || leads g t d a)) e
