use Rattle.std.proofs.Common.{◌≡◌, ◌||◌, ◌&&◌, not, ℕ, List}
use Rattle.std.specs.Map.{keys_of}
use Rattle.std.specs.BTreeSet.{contains}
use Rattle.rel_path.specs.Paths.{name_cmp}
use Rattle.turbo_config.specs.Names.{has_hash}
use Rattle.task_definitions.specs.Setup.{is_among}
use Rattle.task_definitions.proofs.task_names.add_keys.Given as goal

-- the names so far, and those of the keys that are left
abbrev pub invariant-loop-key : goal.invariant-loop-key
invariant-loop-key l = (name : List ℕ) → (contains name_cmp l.names name || (not (has_hash name) && is_among l.key-iterator name)) ≡ (contains name_cmp l.initial.names name || (not (has_hash name) && is_among (keys_of l.tasks) name))
