-- What the look-ups of the first places cost.
use Rattle.std.proofs.Common.{◌≡◌, ℕ, zero, suc, ◌+◌, ◌≤◌, add-one, arith}
use Rattle.std.proofs.Common.{List, cond, ap, refl, subst, inl, inr}
use Rattle.std.proofs.lemmas.Bool.{cases_eq}
use Rattle.run_core.specs.Moves.{sum_below}
use Rattle.run_laws.specs.Keys.{key_of}
use Rattle.run_plan.specs.declared.plan.Plan.{Plan}
use Rattle.run_plan.specs.Costs.{asks, task_cost}

-- more places cost no less
pub sum-longer : (f : ℕ → ℕ) (n m : ℕ) → n ≤ m → sum_below f n ≤ sum_below f m
sum-longer f n zero le =
    let none : 0 ≡ n = omega (arith, le) in subst (λ k. sum_below f k ≤ 0) none (omega arith)
sum-longer f n (suc m) le = elim (cases_eq n (suc m)) [
  | inl e ↦ subst (λ k. sum_below f n ≤ sum_below f k) e (omega arith)
  | inr d ↦ let rest = sum-longer f n m (omega (arith, le, d)) in omega (arith, rest)
]

pub sum-next : (f : ℕ → ℕ) (n : ℕ) → sum_below f (n + 1) ≡ f n + sum_below f n
sum-next f n = rw add-one refl

-- keys cost the same later
pub task-same : (cost later : List ℕ → ℕ) (plan : Plan) (t : ℕ)
    → ((key : List ℕ) → later key ≡ cost key) → task_cost later plan t ≡ task_cost cost plan t
task-same cost later plan t same =
    ap (λ x. cond (asks plan t) x 0) (same (key_of plan.listing t))
