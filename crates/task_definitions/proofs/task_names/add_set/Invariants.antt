use Rattle.std.proofs.Common.{◌≡◌, ◌||◌, ◌&&◌, not, ℕ, List}
use Rattle.std.specs.BTreeSet.{contains}
use Rattle.rel_path.specs.Paths.{name_cmp}
use Rattle.turbo_config.specs.Names.{has_hash}
use Rattle.task_definitions.specs.Setup.{is_among}
use Rattle.task_definitions.proofs.task_names.add_set.Given as goal

-- the names so far, and those that are left
abbrev pub invariant-loop-name : goal.invariant-loop-name
invariant-loop-name l = (name : List ℕ) → (contains name_cmp l.names name || (not (has_hash name) && is_among l.name-iterator name)) ≡ (contains name_cmp l.initial.names name || (not (has_hash name) && is_among l.more.keys name))
