use Rattle.std.proofs.Common.{◌≡◌, ◌||◌, ◌&&◌, ℕ, List}
use Rattle.std.specs.BTreeSet.{contains}
use Rattle.rel_path.specs.Paths.{name_cmp}
use Rattle.turbo_config.specs.Names.{is_task_name}
use Rattle.task_definitions.specs.Setup.{is_among, is_script_task}
use Rattle.task_definitions.proofs.task_names.script_names.Given as goal

-- the names so far, and those of the scripts that are left
abbrev pub invariant-loop-script : goal.invariant-loop-script
invariant-loop-script l = (name : List ℕ) → (contains name_cmp l.names name || (is_task_name name && is_among l.script-iterator name)) ≡ is_script_task l.scripts.keys name
