-- What a run of a plan stands on, as the laws of runs see it.
use Rattle.std.specs.Prelude.{◌≡◌, List, true, length}
use Rattle.rel_path.specs.Paths.{Path}
use Rattle.rel_path.specs.Files.{FileMap, file_at}
use Rattle.cache_api.specs.Pairs.{Pair}
use Rattle.spawn_dev.specs.declared.command.Step.{Step}
use Rattle.run_core.specs.Greedy.{Rules, Tasks}
use Rattle.run_laws.specs.Ancestors.{part_at}
use Rattle.run_laws.specs.Closures.{names}
use Rattle.run_laws.specs.Effects.{Book}
use Rattle.run_laws.specs.Marks.{is_to_run}
use Rattle.run_laws.specs.Runs.{Setting, mark_at}
use Rattle.run_plan.specs.declared.plan.Plan.{Plan}
use Rattle.run_plan.specs.Plans.{bypasses}

-- What commands do, and the files, pairs and steps at the opening of a run.
pub record Opening : Type 0 where
  pub book : Book
  pub files : FileMap
  pub pairs : List Pair
  pub steps : List Step

abbrev pub setting_of : Plan → Opening → Setting
setting_of plan o = record { mode = plan.mode; book = o.book; listing = plan.listing; bypasses = bypasses plan; files = o.files; pairs = o.pairs }

-- the task graph, the width and the mode
abbrev pub rules_of : Plan → Rules
rules_of plan = record { size = length plan.listing.parts; deps = λ t. (part_at plan.listing t).deps; width = plan.width; mode = plan.mode }

-- to run are the tasks with a script that are no hit at the opening
abbrev pub tasks_of : Plan → Opening → Tasks
tasks_of plan o = record { rules = rules_of plan; to_run = λ t. is_to_run (part_at plan.listing t) (mark_at (setting_of plan o) t) }

-- the files have the listing's bytes at its inputs
abbrev pub HoldsInputs : Plan → FileMap → Type 0
HoldsInputs plan files = (path : Path) → names plan.listing.parts path ≡ true → files path ≡ file_at plan.listing.files path
