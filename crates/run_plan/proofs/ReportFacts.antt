-- Tables of reports.
use Rattle.std.proofs.Common.{◌≡◌, ℕ, zero, suc, ◌+◌, ◌<◌, ◌≤◌, ◌==◌, Bool, true, false, cond, List, [], ◌∷◌, length, get_or, set, replicate, refl, sym, ap, ◌∙◌, arith, inl, inr, Option, Some, None, slice_get, add-one}
use mathlib.Core.Path.{fun_ext}
use Rattle.std.proofs.lemmas.Bool.{cases_Bool, cases_eq, eq-eqb, ne_eqb}
use Rattle.run_core.specs.Greedy.{count_below}
use Rattle.spawn_dev.specs.Spawn.{put_at}
use Rattle.run_plan.specs.declared.report.Report.{Report}
use Rattle.run_plan.specs.Reports.{flat, report_in}

pub item-at : {X : Type 0} (xs : List X) (i : ℕ) (x : X) → i < length xs → x ≡ get_or xs i x → slice_get xs i ≡ Some x
item-at [] i x less e = absurd (omega arith)
item-at (y ∷ xs) zero x less e = ap (λ z. Some z) (sym e)
item-at (y ∷ xs) (suc i) x less e = item-at xs i x (omega arith) e

pub report-at : (table : List (Option Report)) (i : ℕ) (x : Option Report) → i < length table → x ≡ get_or table i x → report_in table i ≡ x
report-at table i x less e = ap flat (item-at table i x less e)

pub none-in : (n t : ℕ) → report_in (replicate n None) t ≡ None
none-in zero t = refl
none-in (suc n) zero = refl
none-in (suc n) (suc t) = none-in n t

get-set : {X : Type 0} (xs : List X) (i : ℕ) (x : X) (j : ℕ) → i < length xs → slice_get (set xs i x) j ≡ cond (j == i) (Some x) (slice_get xs j)
get-set [] i x j less = absurd (omega arith)
get-set (y ∷ xs) zero x zero less = refl
get-set (y ∷ xs) zero x (suc j) less = rw (ne_eqb (suc j) 0 (λ e. absurd (omega arith))) refl
get-set (y ∷ xs) (suc i) x zero less = rw (ne_eqb 0 (suc i) (λ e. absurd (omega arith))) refl
get-set (y ∷ xs) (suc i) x (suc j) less = elim (cases_eq j i) [
  | inl e ↦ rw (eq-eqb (suc j) (suc i) (ap suc e)) (get-set xs i x j (omega arith) ∙ rw (eq-eqb j i e) refl)
  | inr d ↦ rw (ne_eqb (suc j) (suc i) (λ e. d (omega arith))) (get-set xs i x j (omega arith) ∙ rw (ne_eqb j i d) refl)
]

pub report-set : (table : List (Option Report)) (i : ℕ) (report : Report) → i < length table → report_in (set table i (Some report)) ≡ put_at (report_in table) i (Some report)
report-set table i report less = fun_ext (λ j. ap flat (get-set table i (Some report) j less) ∙ by (j == i) j)
  where
    by : (b : Bool) (j : ℕ) → flat (cond b (Some (Some report)) (slice_get table j)) ≡ cond b (Some report) (flat (slice_get table j))
    by true j = refl
    by false j = refl

pub count-step : (p : ℕ → Bool) (i count next : ℕ) → count ≡ count_below p i → count ≤ i → (p i ≡ true → next ≡ count + 1) → (p i ≡ false → next ≡ count) → (next ≡ count_below p (i + 1)) × (next ≤ i + 1)
count-step p i count next is le more same =
    elim (cases_Bool (p i)) [
      | inl h ↦ (rw (add-one, h) (more h ∙ omega (arith, is)), omega (arith, more h))
      | inr h ↦ (rw (add-one, h) (same h ∙ is), omega (arith, same h))
    ]
