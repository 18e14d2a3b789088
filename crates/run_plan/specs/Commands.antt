-- The command of a task of a plan.
use Rattle.std.specs.Prelude.{ℕ, List, [], ◌∷◌, ◌++◌, map, if◌then◌else◌}
use Rattle.globs.specs.declared.out_set.OutSet.{OutSet}
use Rattle.listing.specs.declared.part.Part.{Part}
use Rattle.spawn_dev.specs.declared.command.Command.{Command}
use Rattle.run_laws.specs.Picks.{pick}
use Rattle.run_laws.specs.Ancestors.{part_at, has_script, is_above}
use Rattle.run_laws.specs.Closures.{closure}
use Rattle.run_plan.specs.declared.plan.Plan.{Plan}
use Rattle.run_plan.specs.Plans.{given_at}

-- the output sets of those that have a script
abbrev pub outs_of : List Part → List OutSet
outs_of [] = []
outs_of (part ∷ parts) = if has_script part then part.outs ∷ outs_of parts else outs_of parts

-- the installed packages that these parts use
abbrev pub externals_of : List Part → List (List ℕ × List ℕ)
externals_of [] = []
externals_of (part ∷ parts) = part.externals ++ externals_of parts

-- The command of the task at the place: its part and what is passed on, the inputs and installed packages of the task
-- and its ancestors, and the output sets of the ancestors.
unfoldable pub command_of : Plan → ℕ → Command
command_of plan t = record {
  place = t;
  «package» = (part_at plan.listing t).package;
  task = (part_at plan.listing t).task;
  dir = (part_at plan.listing t).folder;
  scripts = (part_at plan.listing t).scripts;
  args = (part_at plan.listing t).args;
  env = (part_at plan.listing t).env;
  given = given_at plan t;
  externals = externals_of (closure plan.listing t).parts;
  reads = map (λ f. f.0) (closure plan.listing t).files;
  above = outs_of (pick (is_above plan.listing t) plan.listing.parts);
  outs = (part_at plan.listing t).outs;
}
