use Rattle.run_laws.specs.Ancestors.{part_at}
use Rattle.task_devices.proofs.FileFacts.{logged_is}
use Rattle.task_devices.proofs.files.keep_log.Goals as goal

pub returns-in-Ok-clause-logged : goal.returns-in-Ok-clause-logged
returns-in-Ok-clause-logged g c told =
    let part = part_at c.args.plan.now.listing c.args.place in
    let old = g.W.Tree.state c.args.world.now in
    let new = g.W.Tree.state c.write_changed.new.tree in
    logged_is part c.args.log.now c.in_ok-path.path old.files new.files c.in_ok-path.ensures.path
    (c.in-Ok.ensures.others told) (c.in-Ok.ensures.written told)
