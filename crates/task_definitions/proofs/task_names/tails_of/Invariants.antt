use Rattle.std.proofs.Common.{◌≡◌, ◌||◌, ℕ, List}
use Rattle.std.specs.Map.{keys_of}
use Rattle.std.specs.BTreeSet.{contains}
use Rattle.rel_path.specs.Paths.{name_cmp}
use Rattle.task_definitions.specs.Setup.{is_among, tails_of}
use Rattle.task_definitions.proofs.task_names.tails_of.Given as goal

-- the tails so far, and those of the keys that are left
abbrev pub invariant-loop-key : goal.invariant-loop-key
invariant-loop-key l = (task : List ℕ) → (contains name_cmp l.tails task || is_among (tails_of l.key-iterator) task) ≡ is_among (tails_of (keys_of l.tasks)) task
