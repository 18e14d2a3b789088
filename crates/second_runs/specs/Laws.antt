-- What follows of the images that a run over two stores leaves.
use Rattle.std.specs.Prelude.{◌≡◌, ℕ, Bool, true, List, Option, Some}
use Rattle.cache_api.specs.Pairs.{Pair}
use Rattle.record_log.specs.Frames.{IsSound}
use Rattle.spawn_dev.specs.declared.command.Step.{Step}
use Rattle.run_laws.specs.Effects.{Book}
use Rattle.run_laws.specs.Pairs.{IsGood}
use Rattle.run_plan.specs.declared.plan.Plan.{Plan}
use Rattle.second_runs.specs.Images.{AddsBehind, IsLeftBy}
use Rattle.second_runs.specs.Moments.{Moment}

-- to a store nothing can be added but what leaves it a store
abbrev pub SoundLaw : Type 0
SoundLaw = (puts : Bool) (d c : List ℕ) → IsSound d → AddsBehind puts d c → IsSound c

-- bytes to which nothing was added are also some to which perhaps more was added
abbrev pub MoreLaw : Type 0
MoreLaw = (puts : Bool) (d c : List ℕ) → AddsBehind puts d c → AddsBehind true d c

-- where the first pairs of a store told the truth, so do those of each image of it that a run left,
-- over whatever pairs of both stores
abbrev pub TruthLaw : Type 0
TruthLaw = (is_dry puts : Bool) (book : Book) (plan : Plan) (old : Moment) (steps : List Step)
    (pairs first left : List Pair) (told : Option (List Pair)) → IsGood book first
    → IsLeftBy is_dry puts book plan old steps pairs first told → told ≡ Some left
    → IsGood book left
