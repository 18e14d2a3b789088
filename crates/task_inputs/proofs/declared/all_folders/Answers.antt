use Rattle.std.proofs.Common.{arith}
use Rattle.workspaces.specs.Space.{owners}
use Rattle.workspaces.proofs.Owners.{owners_count}
use Rattle.task_inputs.proofs.Homes.{one_numbered}
use Rattle.task_inputs.proofs.declared.all_folders.Goals as goal

pub loop-p-preserved : goal.loop-p-preserved
loop-p-preserved c =
    one_numbered (owners c.args.packages.now) c.loop-p.p c.folder.result.now c.loop-p.folders c.add_folder.new.folders (omega (arith, owners_count c.args.packages.now)) c.folder.ensures c.in_ok-add_folder.ensures.added c.loop-p.invariant
