-- The counts of faults after a run: where its fault was told, and where the count of its store is
-- part of a sum.
use Rattle.std.proofs.Common.{◌≡◌, ◌+◌, ◌≤◌, ℕ, Err, refl, sym, ap, ◌∙◌, subst, arith}
use Rattle.rel_path.specs.Causes.{Rose}
use Rattle.task_devices.specs.Stops.{EndsBy, faults_of}
use Rattle.task_devices.specs.declared.error.RunErr.{RunErr}
use Rattle.task_devices.specs.declared.error.RunErr.TheVariants as run
use Rattle.answers.specs.declared.answer.Answer.{Answer}
use Rattle.answers.specs.declared.answer.Answer.TheVariants as answer
use Rattle.answers.specs.Answers.{FaultCounts, HasRunCause, counts_of}
use Rattle.cache_runs.specs.Steps.{answer_of}

-- what stopped the run was told then, at which the output may fail
pub cause_told : (t s a k u v b l m : ℕ) (fault : RunErr)
    → EndsBy {T = ℕ} (faults_of t s a k) (faults_of u v b l) (Err fault) → l ≤ m
    → (fault ≡ run.SinkFault → m ≡ l) → (fault ≡ run.OutOfMemory → m ≡ l)
    → HasRunCause (counts_of t s a k) (counts_of u v b m) (answer_of fault)
cause_told t s a k u v b l m run.TreeFault h later sink memory =
    (h.0, h.1, h.2, omega (arith, h.3, later))
cause_told t s a k u v b l m run.StoreFault h later sink memory =
    (h.0, h.1, h.2, omega (arith, h.3, later))
cause_told t s a k u v b l m run.StartFault h later sink memory =
    (h.0, h.1, h.2, omega (arith, h.3, later))
cause_told t s a k u v b l m run.SinkFault h later sink memory =
    (subst (λ n. Rose k n) (sym (sink refl)) h.0, h.1, h.2, h.3)
cause_told t s a k u v b l m run.OutOfMemory h later sink memory =
    (h.0, h.1, h.2, memory refl ∙ h.3)

-- where the count of a store is part of a sum whose other part stays
pub cause_in_sum : (t u s v k l a b other x y : ℕ) (r : Answer) → x ≡ a + other → y ≡ b + other
    → HasRunCause (counts_of t a s k) (counts_of u b v l) r
    → HasRunCause (counts_of t x s k) (counts_of u y v l) r
cause_in_sum t u s v k l a b other x y r p q h = by r h
  where
    all : (counts_of u b v l ≡ counts_of t a s k) → counts_of u y v l ≡ counts_of t x s k
    all is =
        let stores : y ≡ x = omega (arith, p, q, ap (λ (n : FaultCounts). n.store) is) in
        λ i. counts_of (is i).tree (stores i) (is i).start (is i).sink

    by : (r : Answer) → HasRunCause (counts_of t a s k) (counts_of u b v l) r
        → HasRunCause (counts_of t x s k) (counts_of u y v l) r
    by (answer.Done status) h = all h
    by (answer.Refused reason) h = all h
    by answer.TreeFault h = (h.0, omega (arith, p, q, h.1), h.2, h.3)
    by answer.StoreFault h = (omega (arith, p, q, h.0), h.1, h.2, h.3)
    by answer.StartFault h = (h.0, h.1, omega (arith, p, q, h.2), h.3)
    by answer.SinkFault h = (h.0, h.1, omega (arith, p, q, h.2), h.3)
    by answer.OutOfMemory h = (h.0, omega (arith, p, q, h.1), h.2, h.3)
