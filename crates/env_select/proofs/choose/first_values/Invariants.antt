use Rattle.std.proofs.Common.{◌≡◌, ℕ, List, take}
use Rattle.std.specs.BTreeMap.{get}
use Rattle.rel_path.specs.Paths.{name_cmp}
use Rattle.env_select.specs.Choice.{chosen}
use Rattle.env_select.specs.Reach.{is_wanted}
use Rattle.env_select.proofs.choose.first_values.Given as goal

-- the first values of the environment so far
abbrev pub invariant-loop-pair : goal.invariant-loop-pair
invariant-loop-pair l = (name : List ℕ) → get name_cmp l.values name ≡ chosen (is_wanted l.reach l.task l.global) (take l.pair-index l.env) name
