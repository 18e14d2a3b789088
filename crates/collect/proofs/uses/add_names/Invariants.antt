use Rattle.std.proofs.Common.{◌≡◌, ◌++◌, map, take}
use Rattle.collect.specs.Parts.{start_at}
use Rattle.collect.proofs.uses.add_names.Given as goal

abbrev pub invariant-loop-name : goal.invariant-loop-name
invariant-loop-name l = l.starts.items ≡ l.initial.starts.items ++ map (start_at l.from l.soft) (take l.name-index l.names)
