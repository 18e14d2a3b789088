-- What a run over a cache begins with, and what it is trusted in.
use Rattle.std.specs.Prelude.{Bool, true, false, List, ⊤}
use Rattle.listing.specs.KeyText.{Fits}
use Rattle.cache_api.specs.Pairs.{Pair}
use Rattle.run_laws.specs.Effects.{Book}
use Rattle.run_laws.specs.Keys.{IsStorable}
use Rattle.run_laws.specs.Pairs.{IsGood}
use Rattle.run_plan.specs.declared.plan.Plan.{Plan}
use Rattle.run_plan.specs.Openings.{Opening}
use Rattle.answers.specs.Moments.{MomentOf}

-- the opening of a run at a moment, over these pairs
abbrev pub opening_at : {H : Type 0} → Book → MomentOf H → List Pair → Opening
opening_at book old pairs = record {
  book = book;
  files = old.files;
  pairs = pairs;
  steps = old.steps;
}

-- commands write what a store can keep, no text is of 2^32 bytes or more, and the pairs tell the
-- truth
pub record IsTrusted (book : Book) (plan : Plan) (pairs : List Pair) : Type 0 where
  pub storable : IsStorable plan.mode book plan.listing
  pub fits : Fits plan.listing
  pub good : IsGood book pairs

-- nothing is asked of a dry run
abbrev pub IsTrustedRun : Bool → Book → Plan → List Pair → Type 0
IsTrustedRun true book plan pairs = ⊤
IsTrustedRun false book plan pairs = IsTrusted book plan pairs
