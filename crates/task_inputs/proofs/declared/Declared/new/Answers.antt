use Rattle.std.proofs.Common.{length, subst}
use Rattle.workspaces.specs.Space.{owners}
use Rattle.workspaces.proofs.Owners.{owners_count}
use Rattle.task_inputs.specs.Folders.{AreHomes}
use Rattle.task_inputs.proofs.Homes.{indexed}
use Rattle.task_inputs.proofs.declared.Declared.new.Goals as goal

pub invariant_of-result : goal.invariant_of-result
invariant_of-result c =
    rw c.in_ok-homes.ensures.value (indexed c.args.config.now (owners c.args.packages.now) (length c.args.packages.now.packages) c.in_ok-folders.folders (owners_count c.args.packages.now) (subst AreHomes c.in_ok-homes.ensures.value c.in_ok-homes.ensures.homes) c.in_ok-folders.ensures.numbers)
