-- By what compaction answered, and what found the current store.
use Rattle.std.proofs.Common.{◌≡◌, ◌<◌, inl, inr, ℕ, ◌+◌, false, List, None, Ok, Err, subst, arith}
use Rattle.std.specs.Prelude.{◌⊎◌, Option, Result, IfOk, IfErr, OnOk, MatchBool}
use Rattle.rel_path.specs.Causes.{Rose}
use Rattle.compact.specs.declared.error.CurrentErr.{CurrentErr}
use Rattle.compact.specs.declared.error.CompactErr.{CompactErr}
use Rattle.compact.specs.declared.error.CompactErr.TheVariants.{From, To, NoRoom, LastGeneration, Failed, OutOfMemory}
use Rattle.compact.specs.declared.kept.Kept.{Kept}
use Rattle.compact.specs.declared.side.Side.{Side}
use Rattle.compact.specs.Answers.{CountsBoth, BothCounted, is_current_fault}
use Rattle.compact.specs.Answers.{IsNotFrom, IsNotTo, IsLastWhere, IsNoRoomWhere}
use Rattle.compact.specs.Answers.{last_generation}
use Rattle.compact.specs.Current.{generation_in}
use Rattle.refusals.specs.declared.refusal.Refusal.{Refusal}
use Rattle.store_answers.specs.Refused.{raised_current}
use Rattle.compact_orders.specs.declared.renewing.Halt.{Halt}
use Rattle.compact_orders.specs.declared.renewing.Halt.TheVariants.{Unopened}
use Rattle.compact_orders.specs.Asking.{IsStuck, lacking_for}
use Rattle.compact_orders.specs.Steps.{is_failed, outcome_of, IsRefusalIn}

-- ---- what compaction answered

module _ (side : Side) where
  pub if_ok : (r : Result Kept CompactErr) (P Q : Kept → Type 0) → ((kept : Kept) → P kept → Q kept)
      → IfOk r P → IfOk (outcome_of side r) Q
  if_ok (Ok kept) P Q more x = more kept x
  if_ok (Err e) P Q more x = tt

  pub could_by : (r : Result Kept CompactErr) (keep : Option ℕ) (bytes : List ℕ) (A : Type 0)
      → IsLastWhere r (generation_in bytes) → IsNoRoomWhere r (lacking_for keep bytes)
      → ((generation_in bytes < last_generation) × (lacking_for keep bytes ≡ None) → A)
      → OnOk (outcome_of side r) A
  could_by (Ok kept) keep bytes A last room more = more (last, room)
  could_by (Err e) keep bytes A last room more = tt

  pub refused_by : (r : Result Kept CompactErr) (keep : Option ℕ) (bytes : List ℕ)
      → IfErr r IsNotFrom → IfErr r IsNotTo → IsLastWhere r (generation_in bytes)
      → IsNoRoomWhere r (lacking_for keep bytes) → (reason : Refusal)
      → IsRefusalIn (outcome_of side r) reason → IsStuck keep bytes reason
  refused_by (Ok kept) keep bytes not_from not_to last room reason is = absurd is
  refused_by (Err (From fault)) keep bytes not_from not_to last room reason is = absurd not_from
  refused_by (Err (To fault)) keep bytes not_from not_to last room reason is = absurd not_to
  refused_by (Err (NoRoom n f)) keep bytes not_from not_to last room reason is =
      inr (record { generation = last; lack = record { need = n; free = f }; lacks = room; is = is })
  refused_by (Err LastGeneration) keep bytes not_from not_to last room reason is =
      inl (record { generation = last; is = is })
  refused_by (Err Failed) keep bytes not_from not_to last room reason is = absurd is
  refused_by (Err OutOfMemory) keep bytes not_from not_to last room reason is = absurd is

-- ---- counts of both

-- a result that is no fault leaves the sum
pub sum_ok : (o : Result Kept Halt) (kept : Kept) (a now_a b now_b : ℕ) → o ≡ Ok kept
    → CountsBoth is_failed a now_a b now_b o → now_a + now_b ≡ a + b
sum_ok o kept a now_a b now_b is x =
    let y = subst (λ r. BothCounted is_failed a now_a b now_b r) is x.counted in
    omega (arith, y.0, y.1)

pub sum_err : (o : Result Kept Halt) (h : Halt) (a now_a b now_b : ℕ) → is_failed h ≡ false
    → o ≡ Err h → CountsBoth is_failed a now_a b now_b o → now_a + now_b ≡ a + b
sum_err o h a now_a b now_b unfailed is x =
    let y = subst (λ r. BothCounted is_failed a now_a b now_b r) is x.counted in
    let z = subst (λ t. MatchBool t (Rose a now_a ⊎ Rose b now_b) ((now_a ≡ a) × (now_b ≡ b))) unfailed y in
    omega (arith, z.0, z.1)

-- those of devices that were not opened
pub as_current : (o : Result Kept Halt) (fault : CurrentErr) (a now_a b now_b : ℕ)
    → o ≡ Err (Unopened fault) → CountsBoth is_failed a now_a b now_b o
    → CountsBoth is_current_fault a now_a b now_b (raised_current fault)
as_current o fault a now_a b now_b is x = record {
  first = x.first;
  second = x.second;
  counted = subst (λ r. BothCounted is_failed a now_a b now_b r) is x.counted;
}
