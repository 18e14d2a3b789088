-- What the run of a plan stands on.
use Rattle.spawn_dev.specs.Effects.{IsWellBehaved}
use Rattle.run_laws.specs.Runs.{IsReady}
use Rattle.run_plan.specs.declared.plan.Plan.{Plan}
use Rattle.run_plan.specs.Openings.{Opening, setting_of, HoldsInputs}
use Rattle.run_plan.specs.Plans.{IsValidPlan}
use Rattle.cache_runs.specs.Openings.{IsTrusted}

pub is_ready : (plan : Plan) (o : Opening) → IsValidPlan plan → IsWellBehaved o.book
    → HoldsInputs plan o.files → IsTrusted o.book plan o.pairs → IsReady (setting_of plan o)
is_ready plan o valid behaved inputs trust = record {
  valid = record { ordered = valid.ordered; fits = trust.fits };
  apart = valid.apart;
  behaved = behaved;
  storable = trust.storable;
  good = trust.good;
  inputs = inputs;
}
