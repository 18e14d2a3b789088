use Rattle.task_inputs.specs.Facts.{fact_by}
use Rattle.task_inputs.proofs.Homes.{place_is}
use Rattle.task_inputs.proofs.files.fact_of.Goals as goal

pub returns : goal.returns
unfolding fact_by
returns c =
    let home = place_is c.args.declared.now c.args.path.now c.home-home.result c.home-home.ensures.homes c.home-home.ensures.home in
    let count = c.may_count.ensures in
    let ignored = c.ignored.ensures.value in
    let global = c.takes.ensures.value in
    cc
