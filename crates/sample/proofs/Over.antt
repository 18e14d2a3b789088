-- A run over the current store is the same whatever a second store and a shared file hold.
use Rattle.std.proofs.Common.{inl, inr, ℕ, List, []}
use Rattle.rel_path.specs.Files.{FileMap}
use Rattle.refusals.specs.declared.refusal.Refusal.{Refusal}
use Rattle.run_laws.specs.Effects.{Book}
use Rattle.run_plan.specs.Answers.{Cause}
use Rattle.run_orders.specs.Asking.{IsRefusedRunOrder}
use Rattle.run_orders.specs.Moments.{OrderMoment, StoreFiles}
use Rattle.run_orders.specs.Outcomes.{RanOrder}
use Rattle.run_orders.specs.Stops.{StoppedRun}
use Rattle.sample.specs.Runs.{build_order}

-- the same stores, but that the second one and the shared file are empty
abbrev pub plain_files : StoreFiles → StoreFiles
plain_files stores = record { local = stores.local; second = []; shared = []; coming = [] }

abbrev pub plain : OrderMoment → OrderMoment
plain moment = record {
  files = moment.files;
  steps = moment.steps;
  held = plain_files moment.held;
  printed = moment.printed;
}

pub ran_over : (book : Book) (Heard : Type 0) (old new : OrderMoment) (status : ℕ)
    → RanOrder book build_order [] Heard old new status
    → RanOrder book build_order [] Heard (plain old) (plain new) status
ran_over book Heard old new status x = record { plan = x.plan; asks = x.asks; ran = x.ran }

pub refused_over : (files : FileMap) (stores : StoreFiles) (reason : Refusal)
    → IsRefusedRunOrder build_order [] files stores reason
    → IsRefusedRunOrder build_order [] files (plain_files stores) reason
refused_over files stores reason (inl none) = inl none
refused_over files stores reason (inr bad) =
    inr (record { plan = bad.plan; asks = bad.asks; none = bad.none })

pub stopped_over : (book : Book) (Heard : Type 0) (old new : OrderMoment) (cause : Cause)
    (line : List ℕ) → StoppedRun build_order book [] Heard old new cause line
    → StoppedRun build_order book [] Heard (plain old) (plain new) cause line
stopped_over book Heard old new cause line (inl x) =
    inl (record { files = x.files; steps = x.steps; printed = x.printed })
stopped_over book Heard old new cause line (inr x) =
    inr (record { plan = x.plan; asks = x.asks; stops = x.stops })
