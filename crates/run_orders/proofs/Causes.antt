-- Counts of faults of several devices, of which some were left alone.
use Rattle.std.proofs.Common.{◌≡◌, ◌+◌, ℕ, refl, subst, arith}
use Rattle.answers.specs.declared.answer.Answer.{Answer}
use Rattle.answers.specs.Answers.{FaultCounts, HasCauseIn, HasRunCause, counts_of}
use Rattle.answers.specs.Facts.{cause_of_run}
use Rattle.cache_runs.proofs.Causes.{cause_in_sum}
use Rattle.file_runs.specs.Causes.{HasCauseOver}
use Rattle.run_orders.specs.Causes.{HasCauseBy}
use Rattle.run_orders.specs.declared.uses.Uses.{Uses}
use Rattle.run_orders.specs.declared.uses.Uses.TheVariants.{Current, Second, Shared}

-- The count of the shared file is part of a sum whose other part stays.
pub over_in_sum : (told : Type 0) (t u s v k l a b other x y : ℕ) (r : Answer) → x ≡ a + other
    → y ≡ b + other → HasCauseOver told (counts_of t a s k) (counts_of u b v l) r
    → HasCauseOver told (counts_of t x s k) (counts_of u y v l) r
over_in_sum told t u s v k l a b other x y r p q h = record {
  damaged = h.damaged;
  never = h.never;
  cause = cause_in_sum t u s v k l a (b + h.damaged) other x (y + h.damaged) r p
      (omega (arith, q)) h.cause;
}

-- where no turn was taken, none found that the file is no store any more
pub cause_by : (uses : Uses) (told : Type 0) (old new : FaultCounts) (answer : Answer)
    → HasCauseIn old new answer → HasCauseBy uses told old new answer
cause_by Current told old new answer h = cause_of_run old new answer h
cause_by Second told old new answer h = cause_of_run old new answer h
cause_by Shared told old new answer h =
    let same : new.store ≡ new.store + 0 = omega arith in
    record {
      damaged = 0;
      never = λ _. refl;
      cause = subst (λ (n : ℕ). HasRunCause old (record new { store = n }) answer) same
          (cause_of_run old new answer h);
    }
