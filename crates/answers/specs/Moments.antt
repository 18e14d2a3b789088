-- What the devices hold at a moment of a call.
use Rattle.std.specs.Prelude.{ℕ, List, Option}
use Rattle.rel_path.specs.Files.{FileMap}
use Rattle.tree_dev.specs.Tree.{TreeState}
use Rattle.cache_api.specs.Pairs.{Pair}
use Rattle.spawn_dev.specs.declared.command.Step.{Step}
use Rattle.spawn_dev.specs.Spawn.{Runs}

-- What the stores hold that a call uses: the pairs, and nothing where one is no store; and how many
-- bytes more they take.
pub record Held : Type 0 where
  pub pairs : Option (List Pair)
  pub free : ℕ

-- the files, the starts and ends of commands so far, what the stores hold, and what was printed
pub record MomentOf (H : Type 0) : Type 0 where
  pub files : FileMap
  pub steps : List Step
  pub held : H
  pub printed : List ℕ

-- where the stores of the call are one, as a run sees them
abbrev pub Moment : Type 0
Moment = MomentOf Held

abbrev pub moment_of : {B R H : Type 0} → TreeState R → Runs B → H → List ℕ → MomentOf H
moment_of tree runs held printed = record {
  files = tree.files;
  steps = runs.steps;
  held = held;
  printed = printed;
}
