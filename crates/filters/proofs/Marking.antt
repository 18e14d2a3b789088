-- Marks, by their places.
use Rattle.std.proofs.Common.{◌≡◌, ◌≢◌, ◌==◌, ◌||◌, ◌&&◌, ◌⊎◌, inl, inr, ℕ, zero, suc, ◌<◌, Bool, true, false, cond, List, [], ◌∷◌, ◌++◌, length, set, refl, sym, ap, ◌∙◌, arith, eqb}
use Rattle.std.specs.Prelude.{replicate, nat_lt}
use Rattle.std.proofs.lemmas.Bool.Decides.{eqb_tells, nat_tests}
use Rattle.workspaces.specs.Marks.{is_marked}
use Rattle.workspaces.specs.Reach.{is_in}
use Rattle.workspaces.proofs.Marking.{in_more, self_place, other_place}

marked-set : (marks : List Bool) (at : ℕ) (v : Bool) (q : ℕ) → at < length marks → is_marked (set marks at v) q ≡ cond (at == q) v (is_marked marks q)
marked-set [] at v q less = absurd (omega arith)
marked-set (m ∷ marks) zero v zero less = refl
marked-set (m ∷ marks) zero v (suc q) less = rw (other_place 0 (suc q) (λ e. absurd (omega (arith, e)))) refl
marked-set (m ∷ marks) (suc at) v zero less = rw (other_place (suc at) 0 (λ e. absurd (omega (arith, e)))) refl
marked-set (m ∷ marks) (suc at) v (suc q) less = marked-set marks at v q (omega arith) ∙ by (eqb_tells at q) where
  by : ((eqb at q ≡ true) × (at ≡ q)) ⊎ ((eqb at q ≡ false) × (at ≢ q)) → cond (at == q) v (is_marked marks q) ≡ cond (suc at == suc q) v (is_marked marks q)
  by (inl same) = rw (same.1, self_place q, self_place (suc q)) refl
  by (inr other) = rw (other.0, other_place (suc at) (suc q) (λ e. other.1 (omega (arith, e)))) refl

cond_or : (a b v old : Bool) → cond b v (cond a v old) ≡ cond (a || b) v old
cond_or true true v old = refl
cond_or true false v old = refl
cond_or false b v old = refl

-- one place more has the mark
pub mark_more : (ps : List ℕ) (at : ℕ) (v : Bool) (old new : List Bool) → ((q : ℕ) → is_marked new q ≡ cond (is_in ps q) v (is_marked old q)) → at < length new → (q : ℕ) → is_marked (set new at v) q ≡ cond (is_in (ps ++ at ∷ []) q) v (is_marked old q)
mark_more ps at v old new before less q = marked-set new at v q less ∙ (ap (λ t. cond (at == q) v t) (before q) ∙ (cond_or (is_in ps q) (at == q) v (is_marked old q) ∙ ap (λ t. cond t v (is_marked old q)) (sym (in_more ps at q))))

pub all_marked : (count q : ℕ) → is_marked (replicate count true) q ≡ nat_lt q count
all_marked zero q = sym (grind (arith, nat_tests))
all_marked (suc count) zero = sym (grind (arith, nat_tests))
all_marked (suc count) (suc q) = all_marked count q ∙ grind (arith, nat_tests)

-- a mark stands within the list
pub marked_within : (marks : List Bool) (q : ℕ) → is_marked marks q ≡ (nat_lt q (length marks) && is_marked marks q)
marked_within [] q = by (nat_lt q 0) where
  by : (t : Bool) → false ≡ (t && false)
  by true = refl
  by false = refl
marked_within (m ∷ marks) zero = let less : nat_lt 0 (length (m ∷ marks)) ≡ true = grind (arith, nat_tests) in rw less refl
marked_within (m ∷ marks) (suc q) = let same : nat_lt (suc q) (length (m ∷ marks)) ≡ nat_lt q (length marks) = grind (arith, nat_tests) in rw same (marked_within marks q)
