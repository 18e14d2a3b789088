use Rattle.std.proofs.Common.{◌≡◌, take}
use Rattle.std.specs.Prelude.{Some}
use Rattle.task_definitions.specs.Setup.{task_def}
use Rattle.collect.specs.Listings.{ArePaired}
use Rattle.planner.proofs.definitions.defs_of.Given as goal

abbrev pub invariant-loop-id : goal.invariant-loop-id
invariant-loop-id l = ArePaired (λ id def. task_def l.config id.«package» id.task ≡ Some def) (take l.id-index l.ids) l.defs
