-- What stopped, for other reasons.
use Rattle.std.proofs.Common.{inl, inr, ℕ, Bool, List}
use Rattle.cli_words.specs.declared.order.Access.{Access}
use Rattle.refusals.specs.declared.refusal.Refusal.{Refusal}
use Rattle.run_laws.specs.Effects.{Book}
use Rattle.run_plan.specs.declared.plan.Plan.{Plan}
use Rattle.run_plan.specs.Answers.{Cause}
use Rattle.cache_runs.proofs.Stopped.{unstarted_as}
use Rattle.second_runs.specs.Moments.{Moment}
use Rattle.second_runs.specs.Stops.{StopsSecond}

pub stops_as : (R Q : Refusal → Type 0) → ((reason : Refusal) → R reason → Q reason)
    → (is_dry : Bool) (access : Access) (book : Book) (plan : Plan) (Heard : Type 0)
    (old new : Moment) (cause : Cause) (line : List ℕ)
    → StopsSecond R is_dry access book plan Heard old new cause line
    → StopsSecond Q is_dry access book plan Heard old new cause line
stops_as R Q more is_dry access book plan Heard old new cause line (inl none) =
    inl (unstarted_as R Q more old new cause line none)
stops_as R Q more is_dry access book plan Heard old new cause line (inr ran) = inr ran
