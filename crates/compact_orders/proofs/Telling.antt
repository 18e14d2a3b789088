-- What an order to compact says, by what its steps answered.
use Rattle.std.proofs.Common.{◌≡◌, inl, inr, ℕ, List, Ok, Err, subst}
use Rattle.std.specs.Prelude.{Option, Result, IfOk, OnOk}
use Rattle.run_plan.specs.Answers.{Cause}
use Rattle.run_plan.specs.Answers.Cause.{Device, Output, Memory}
use Rattle.compact.specs.declared.kept.Kept.{Kept}
use Rattle.compact.specs.Left.{IsCountIn}
use Rattle.refusals.specs.declared.refusal.Refusal.{Refusal}
use Rattle.refusals.specs.Refusals.{line_of, refusal_text}
use Rattle.answers.specs.Facts.{cuts_as, cut_early}
use Rattle.answers.specs.Stops.{PrintsSome, CutsText, StopsEarly}
use Rattle.store_answers.specs.Stores.{Stores}
use Rattle.compact_orders.specs.declared.renewing.Halt.{Halt}
use Rattle.compact_orders.specs.Asking.{IsCompactable, IsRefusedCompact, current_pairs}
use Rattle.compact_orders.specs.Outcomes.{kept_line, line_for}
use Rattle.compact_orders.specs.Steps.{IsHaltRefusal, IsRefusalIn}
use Rattle.compact_orders.specs.Stops.{StopsAs, StoppedCompact}

module _ (keep : Option ℕ) (stores : Stores) where
  line_is : (kept : Kept) → IsCountIn (current_pairs stores) keep kept
      → kept_line kept.kept kept.before ≡ line_for keep stores
  line_is kept x = λ i. kept_line (x.kept i) (x.before i)

  -- what was printed where it was stopped
  stopped_ok : (kept : Kept) (before after : List ℕ) (cause : Cause) (line : List ℕ)
      → IsCompactable keep stores → IsCountIn (current_pairs stores) keep kept
      → CutsText cause (kept_line kept.kept kept.before) before after
      → StoppedCompact keep stores before after cause line
  stopped_ok kept before after Device line could counts cut = absurd cut
  stopped_ok kept before after Output line could counts cut = inr (record {
    could = could;
    some = subst (λ text. PrintsSome text before after) (line_is kept counts) cut;
  })
  stopped_ok kept before after Memory line could counts cut = cut

  stopped_err : (h : Halt) (before after : List ℕ) (cause : Cause) (line : List ℕ)
      → ((reason : Refusal) → IsHaltRefusal h reason → IsRefusedCompact keep stores reason)
      → StopsEarly (IsHaltRefusal h) before after cause line
      → StoppedCompact keep stores before after cause line
  stopped_err h before after Device line refused x = x
  stopped_err h before after Output line refused x = inl (x.0, refused x.0 x.1, x.2)
  stopped_err h before after Memory line refused x = x

  pub stopped_by : (o : Result Kept Halt) (before after : List ℕ) (cause : Cause) (line : List ℕ)
      → OnOk o (IsCompactable keep stores) → IfOk o (IsCountIn (current_pairs stores) keep)
      → ((reason : Refusal) → IsRefusalIn o reason → IsRefusedCompact keep stores reason)
      → StopsAs o before after cause line → StoppedCompact keep stores before after cause line
  stopped_by (Ok kept) before after cause line could counts refused x =
      stopped_ok kept before after cause line could counts x
  stopped_by (Err h) before after cause line could counts refused x =
      stopped_err h before after cause line refused x

-- the line of a refusal was cut
pub refusal_cut : (h : Halt) (reason : Refusal) → IsHaltRefusal h reason → (before after : List ℕ)
    (cause : Cause) (line : List ℕ) → CutsText cause (line_of (refusal_text reason)) before after
    → StopsAs (Err h) before after cause line
refusal_cut h reason is before after cause line cut =
    cut_early (IsHaltRefusal h) before after cause line
    (cuts_as (IsHaltRefusal h) reason is before after cause cut)
