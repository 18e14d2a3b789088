use Rattle.std.proofs.Common.{◌≡◌, []}
use Rattle.std.specs.Vec.Iter.{into_iter_items}
use Rattle.task_definitions.specs.Setup.{each_once}
use Rattle.task_definitions.proofs.config.each_once.Given as goal

abbrev pub invariant-loop-name : goal.invariant-loop-name
invariant-loop-name l = each_once l.set.keys (into_iter_items l.name-iterator) ≡ each_once [] l.fn.names
