-- What an order to prune has printed that a fault of a device or want of memory ended.
use Rattle.std.specs.Prelude.{◌≡◌, ◌⊎◌, ℕ, List, Ok}
use Rattle.rel_path.specs.Files.{FileMap}
use Rattle.repository.specs.Reading.{Contents, Means}
use Rattle.run_plan.specs.Answers.{Cause}
use Rattle.run_plan.specs.Answers.Cause.{Device, Output, Memory}
use Rattle.prune.specs.Printed.{IsAddedText}
use Rattle.answers.specs.Stops.{PrintsSome, CutsRefusal}
use Rattle.prune_orders.specs.Asking.{IsRefusedPrune}

-- some first part of the lines of the packages that stay
abbrev pub PrintsAdded : List (List ℕ) → FileMap → List ℕ → List ℕ → Type 0
PrintsAdded targets files before after =
    (contents : Contents) × Means files (Ok contents)
    × ((text : List ℕ) × IsAddedText contents targets text × PrintsSome text before after)

-- the line of the device that failed; of a refusal's line, or of the lines of packages, some first part; nothing after
-- want of memory
abbrev pub StoppedPrune : List (List ℕ) → FileMap → List ℕ → List ℕ → Cause → List ℕ → Type 0
StoppedPrune targets files before after Device line = PrintsSome line before after
StoppedPrune targets files before after Output line =
    CutsRefusal (IsRefusedPrune targets files) Output before after ⊎ PrintsAdded targets files before after
StoppedPrune targets files before after Memory line = after ≡ before
