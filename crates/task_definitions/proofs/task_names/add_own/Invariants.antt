use Rattle.std.proofs.Common.{◌≡◌, ◌||◌, ◌&&◌, not, ℕ, List}
use Rattle.std.specs.Map.{keys_of}
use Rattle.std.specs.List.{list_any}
use Rattle.std.specs.BTreeSet.{contains}
use Rattle.rel_path.specs.Paths.{name_cmp}
use Rattle.turbo_config.specs.Names.{has_hash}
use Rattle.task_definitions.specs.Setup.{is_among, is_own}
use Rattle.task_definitions.proofs.task_names.add_own.Given as goal

-- the names so far, and those of the files that are left
abbrev pub invariant-loop-file : goal.invariant-loop-file
invariant-loop-file l = (name : List ℕ) → (contains name_cmp l.names name || (not (has_hash name) && list_any (λ file. is_among (keys_of file.tasks) name) l.file-iterator)) ≡ (contains name_cmp l.initial.names name || (not (has_hash name) && is_own l.packages.entries name))
