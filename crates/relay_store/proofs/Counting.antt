-- The sum of two devices' counts of faults.
use Rattle.std.proofs.Common.{◌≡◌, ℕ, ◌+◌, ◌≤◌, Bool, true, false, sym, ap, subst, arith}
use Rattle.std.specs.Prelude.{MatchBool, Result, Ok, Err}
use Rattle.rel_path.specs.Causes.{Rose, Counts}

more_by : (b : Bool) (before now other : ℕ) → before ≤ now
    → MatchBool b (Rose before now) (now ≡ before)
    → MatchBool b (Rose (before + other) (now + other)) (now + other ≡ before + other)
more_by true before now other later rose = omega (arith, later, rose)
more_by false before now other later same = ap (λ n. n + other) same

-- where the other one's count stays
pub counts_with : {T E : Type 0} (is_fault : E → Bool) (before now other : ℕ) (result : Result T E)
    → Counts is_fault before now result → Counts is_fault (before + other) (now + other) result
counts_with is_fault before now other (Ok x) c = record {
  later = omega (arith, c.later);
  counted = ap (λ n. n + other) c.counted;
}
counts_with is_fault before now other (Err e) c = record {
  later = omega (arith, c.later);
  counted = more_by (is_fault e) before now other c.later c.counted;
}

pub counts_local : {T E : Type 0} (is_fault : E → Bool) (before now other still : ℕ)
    (result : Result T E) → Counts is_fault before now result → still ≡ other
    → Counts is_fault (before + other) (now + still) result
counts_local is_fault before now other still result c same =
    subst (λ n. Counts is_fault (before + other) (now + n) result) (sym same)
    (counts_with is_fault before now other result c)

pub counts_second : {T E : Type 0} (is_fault : E → Bool) (before now other still : ℕ)
    (result : Result T E) → Counts is_fault before now result → still ≡ other
    → Counts is_fault (other + before) (still + now) result
counts_second is_fault before now other still result c same =
    let a : now + still ≡ still + now = omega arith in
    let b : before + other ≡ other + before = omega arith in
    subst (λ n. Counts is_fault n (still + now) result) b
    (subst (λ n. Counts is_fault (before + other) n result) a
    (counts_local is_fault before now other still result c same))
