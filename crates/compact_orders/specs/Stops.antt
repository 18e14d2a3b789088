-- What an order to compact has printed that a fault of a device or want of memory ended.
use Rattle.std.specs.Prelude.{◌≡◌, ◌⊎◌, ℕ, List, Option, Result, Ok, Err}
use Rattle.run_plan.specs.Answers.{Cause}
use Rattle.run_plan.specs.Answers.Cause.{Device, Output, Memory}
use Rattle.compact.specs.declared.kept.Kept.{Kept}
use Rattle.answers.specs.Stops.{PrintsSome, CutsText, CutsRefusal, StopsEarly}
use Rattle.store_answers.specs.Stores.{Stores}
use Rattle.compact_orders.specs.declared.renewing.Halt.{Halt}
use Rattle.compact_orders.specs.Asking.{IsCompactable, IsRefusedCompact}
use Rattle.compact_orders.specs.Outcomes.{kept_line, line_for}
use Rattle.compact_orders.specs.Steps.{IsHaltRefusal}

-- what was printed behind the answer of the devices
abbrev pub StopsAs : Result Kept Halt → List ℕ → List ℕ → Cause → List ℕ → Type 0
StopsAs (Ok kept) before after cause line =
    CutsText cause (kept_line kept.kept kept.before) before after
StopsAs (Err halt) before after cause line =
    StopsEarly (IsHaltRefusal halt) before after cause line

-- some first part of the line for what was kept
pub record PrintsKept (keep : Option ℕ) (stores : Stores) (before after : List ℕ) : Type 0 where
  pub could : IsCompactable keep stores
  pub some : PrintsSome (line_for keep stores) before after

-- the line of the device that failed; of a refusal's line, or of the line for what was kept, some
-- first part; nothing after want of memory
abbrev pub StoppedCompact : Option ℕ → Stores → List ℕ → List ℕ → Cause → List ℕ → Type 0
StoppedCompact keep stores before after Device line = PrintsSome line before after
StoppedCompact keep stores before after Output line =
    CutsRefusal (IsRefusedCompact keep stores) Output before after
    ⊎ PrintsKept keep stores before after
StoppedCompact keep stores before after Memory line = after ≡ before
