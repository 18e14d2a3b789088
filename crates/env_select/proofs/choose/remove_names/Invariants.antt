use Rattle.std.proofs.Common.{◌≡◌, ℕ, List, None, take, if◌then◌else◌}
use Rattle.std.specs.BTreeMap.{get}
use Rattle.rel_path.specs.Paths.{name_cmp}
use Rattle.env_select.specs.Choice.{has}
use Rattle.env_select.proofs.choose.remove_names.Given as goal

-- the names so far are out
abbrev pub invariant-loop-pair : goal.invariant-loop-pair
invariant-loop-pair l = (name : List ℕ) → get name_cmp l.values name ≡ (if has (take l.pair-index l.pairs) name then None else get name_cmp l.fn.values name)
