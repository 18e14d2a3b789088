-- How many numbers below a bound pass a test.
use Rattle.std.proofs.Common.{◌≡◌, ℕ, zero, suc, ◌<◌, ◌≤◌, le_trans, Bool, true, false, cond, arith, inl, inr}
use Rattle.std.proofs.lemmas.Bool.{cases_eq}
use Rattle.run_core.specs.Greedy.{count_below}

pub count-le : (keep : ℕ → Bool) (i : ℕ) → count_below keep i ≤ i
count-le keep zero = omega arith
count-le keep (suc i) = elim (keep i) as (λ b. cond b (suc (count_below keep i)) (count_below keep i) ≤ suc i) [ true ↦ omega (arith, count-le keep i) | false ↦ omega (arith, count-le keep i) ]

count-up : (keep : ℕ → Bool) (i : ℕ) → count_below keep i ≤ count_below keep (suc i)
count-up keep i = elim (keep i) as (λ b. count_below keep i ≤ cond b (suc (count_below keep i)) (count_below keep i)) [ true ↦ omega arith | false ↦ omega arith ]

count-mono : (keep : ℕ → Bool) (i j : ℕ) → i ≤ j → count_below keep i ≤ count_below keep j
count-mono keep i zero l = let e : i ≡ zero = omega arith in rw e (omega arith)
count-mono keep i (suc j) l =
    elim (cases_eq i (suc j)) [
      | inl e ↦ rw e (omega arith)
      | inr n ↦ let k : i ≤ j = omega arith in le_trans (count-mono keep i j k) (count-up keep j)
    ]

pub count-kept : (keep : ℕ → Bool) (i : ℕ) → keep i ≡ true → count_below keep (suc i) ≡ suc (count_below keep i)
count-kept keep i h = rw h

pub count-left : (keep : ℕ → Bool) (i : ℕ) → keep i ≡ false → count_below keep (suc i) ≡ count_below keep i
count-left keep i h = rw h

-- a number that passes has fewer below it than any higher one
pub count-lt : (keep : ℕ → Bool) (i j : ℕ) → keep i ≡ true → i < j → count_below keep i < count_below keep j
count-lt keep i j h l = let m : count_below keep (suc i) ≤ count_below keep j = count-mono keep (suc i) j l in rw (count-kept keep i h) at m
