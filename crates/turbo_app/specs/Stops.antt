-- What a call leaves that a fault of a device or want of memory ended.
use Rattle.std.specs.Prelude.{ℕ, List, Result, Ok, Err}
use Rattle.cli_words.specs.declared.order.Order.{Order}
use Rattle.cli_words.specs.declared.order.Order.TheVariants.{Run, Prune, Sample, Compact, Help}
use Rattle.cli_words.specs.declared.error.WordsErr.{WordsErr}
use Rattle.cli_words.specs.Orders.{order_of}
use Rattle.run_laws.specs.Effects.{Book}
use Rattle.run_plan.specs.Answers.{Cause}
use Rattle.answers.specs.Stops.{CutsRefusal, CutsText}
use Rattle.run_orders.specs.Moments.{OrderMoment}
use Rattle.run_orders.specs.Stops.{StoppedRun}
use Rattle.prune_orders.specs.Stops.{StoppedPrune}
use Rattle.compact_orders.specs.Stops.{StoppedCompact}
use Rattle.turbo_app.specs.Asking.{IsRefusedOrder}
use Rattle.turbo_app.specs.Outcomes.{usage}
use Rattle.turbo_app.specs.Samples.{StoppedSample}

-- what a call leaves that was stopped
abbrev pub StoppedBy : Result Order WordsErr → Book → List (List ℕ × List ℕ) → Type 0
    → OrderMoment → OrderMoment → Cause → List ℕ → Type 0
StoppedBy (Err fault) book env Heard old new cause line =
    CutsRefusal (IsRefusedOrder (Err fault) env old.files old.held) cause old.printed new.printed
StoppedBy (Ok Help) book env Heard old new cause line =
    CutsText cause usage old.printed new.printed
StoppedBy (Ok (Prune targets docker)) book env Heard old new cause line =
    StoppedPrune targets old.files old.printed new.printed cause line
StoppedBy (Ok (Sample size)) book env Heard old new cause line =
    StoppedSample size old.printed new.printed cause line
StoppedBy (Ok (Compact keep)) book env Heard old new cause line =
    StoppedCompact keep old.held.local old.printed new.printed cause line
StoppedBy (Ok (Run order)) book env Heard old new cause line =
    StoppedRun order book env Heard old new cause line

abbrev pub Stopped : List (List ℕ) → Book → List (List ℕ × List ℕ) → Type 0 → OrderMoment
    → OrderMoment → Cause → List ℕ → Type 0
Stopped words book env Heard old new cause line =
    StoppedBy (order_of words) book env Heard old new cause line
