use Rattle.std.proofs.Common.{◌≡◌, []}
use Rattle.std.specs.Vec.Iter.{into_iter_items}
use Rattle.task_definitions.specs.Setup.{by_name}
use Rattle.task_definitions.proofs.config.by_name.Given as goal

abbrev pub invariant-loop-name : goal.invariant-loop-name
invariant-loop-name l = by_name l.files.entries (into_iter_items l.name-iterator) ≡ by_name [] l.fn.packages.items
