-- What looking tasks up costs.
use Rattle.std.proofs.Common.{◌≡◌, ◌≢◌, ℕ, zero, suc, ◌+◌, ◌<◌, ◌≤◌, true, false, cond, List, length, refl, sym, ap, ◌∙◌, subst, arith, inl, inr}
use mathlib.Core.Path.{fun_ext}
use Rattle.std.proofs.lemmas.Bool.{cases_Bool, cases_eq, eq-eqb, ne_eqb, false≢true}
use Rattle.run_core.specs.declared.states.State.{State}
use Rattle.run_core.specs.declared.states.State.TheVariants.{Waiting, Passed}
use Rattle.run_core.specs.Machine.{States, put, is_waiting}
use Rattle.run_core.specs.Moves.{sum_below}
use Rattle.run_laws.specs.Ancestors.{part_at, has_script}
use Rattle.run_laws.specs.Keys.{key_of}
use Rattle.run_plan.specs.declared.plan.Plan.{Plan}
use Rattle.run_plan.specs.Costs.{asks, task_cost, look_up_cost}
use Rattle.run_plan.specs.Plans.{bypasses}
use Rattle.runner.specs.Costs.{still_costs}

-- ---- sums

sum-less : (f g : ℕ → ℕ) (n : ℕ) → ((u : ℕ) → u < n → g u ≤ f u) → sum_below g n ≤ sum_below f n
sum-less f g zero each = omega arith
sum-less f g (suc n) each =
    let here = each n (omega arith) in
    let rest = sum-less f g n (λ u h. each u (omega (arith, h))) in
    omega (arith, here, rest)

-- one summand falls by so much, and none rises
sum-one : (f g : ℕ → ℕ) (t x n : ℕ) → t < n → g t + x ≤ f t → ((u : ℕ) → u ≢ t → g u ≤ f u)
    → sum_below g n + x ≤ sum_below f n
sum-one f g t x zero below here each = absurd (omega (arith, below))
sum-one f g t x (suc n) below here each = elim (cases_eq t n) [
  | inl e ↦
      let at : g n + x ≤ f n = subst (λ u. g u + x ≤ f u) e here in
      let rest = sum-less f g n (λ u h. each u (λ k. omega (arith, h, k, e))) in
      omega (arith, at, rest)
  | inr d ↦
      let rest = sum-one f g t x n (omega (arith, below, d)) here each in
      let last = each n (λ k. d (sym k)) in
      omega (arith, rest, last)
]

-- ---- costs

module _ (cost : List ℕ → ℕ) (plan : Plan) where
  abbrev cost-in : States → ℕ → ℕ
  cost-in st t = cond (is_waiting (st t)) (task_cost cost plan t) 0

  cost-less : (st later : States) (t : ℕ)
      → (is_waiting (later t) ≡ true → is_waiting (st t) ≡ true) → cost-in later t ≤ cost-in st t
  cost-less st later t was = elim (cases_Bool (is_waiting (later t))) [
    | inl h ↦ rw (h, was h) (omega arith)
    | inr h ↦ rw h (omega arith)
  ]

  -- no task waits that did not wait before
  pub costs-less : (st later : States)
      → ((t : ℕ) → is_waiting (later t) ≡ true → is_waiting (st t) ≡ true)
      → still_costs cost plan later ≤ still_costs cost plan st
  costs-less st later was =
      sum-less (cost-in st) (cost-in later) (length plan.listing.parts)
      (λ u h. cost-less st later u (was u))

  -- a task was put into a state in which it does not wait
  pub puts-less : (st : States) (t : ℕ) (s : State) → is_waiting s ≡ false
      → still_costs cost plan (put st t s) ≤ still_costs cost plan st
  puts-less st t s quiet = costs-less st (put st t s) (λ u. elim (cases_eq u t) [
    | inl e ↦ rw (eq-eqb u t e) (λ h. absurd (false≢true (sym quiet ∙ h)))
    | inr d ↦ rw (ne_eqb u t d) (λ h. h)
  ])

  -- a task that waited was looked up
  pub look-less : (st : States) (t : ℕ) (s : State) → t < length plan.listing.parts
      → st t ≡ Waiting → is_waiting s ≡ false → has_script (part_at plan.listing t) ≡ true
      → bypasses plan t ≡ false
      → still_costs cost plan (put st t s) + cost (key_of plan.listing t)
      ≤ still_costs cost plan st
  look-less st t s below waits quiet script asked =
      sum-one (cost-in st) (cost-in (put st t s)) t (cost (key_of plan.listing t))
      (length plan.listing.parts) below here each
    where
      asks-it : asks plan t ≡ true
      asks-it = rw (script, asked) refl

      here : cost-in (put st t s) t + cost (key_of plan.listing t) ≤ cost-in st t
      here = rw (eq-eqb t t refl, quiet, waits, asks-it) (omega arith)

      each : (u : ℕ) → u ≢ t → cost-in (put st t s) u ≤ cost-in st u
      each u d = cost-less st (put st t s) u (rw (ne_eqb u t d) (λ h. h))

  -- the key of a task that waits costs no more
  pub waiting-costs : (st : States) (t : ℕ) → t < length plan.listing.parts → st t ≡ Waiting
      → has_script (part_at plan.listing t) ≡ true → bypasses plan t ≡ false
      → cost (key_of plan.listing t) ≤ still_costs cost plan st
  waiting-costs st t below waits script asked =
      let all = look-less st t Passed below waits refl script asked in omega (arith, all)

  pub all-wait : (st : States) → st ≡ (λ t. Waiting)
      → still_costs cost plan st ≡ look_up_cost cost plan
  all-wait st is = ap (still_costs cost plan) is

pub costs-same : (cost later : List ℕ → ℕ) (plan : Plan) (st : States)
    → ((key : List ℕ) → later key ≡ cost key) → still_costs later plan st ≡ still_costs cost plan st
costs-same cost later plan st same = ap (λ c. still_costs c plan st) (fun_ext same)
