use Rattle.std.specs.BTreeSet.{contains}
use Rattle.rel_path.specs.Paths.{name_cmp}
use Rattle.task_definitions.proofs.Gains.{gains_one}
use Rattle.task_definitions.proofs.task_names.add_tail.Goals as goal

pub returns-clause-added : goal.returns-clause-added
returns-clause-added c = λ name.
    let updates = rw c.in_ok-read.ensures.value at c.in_ok-insert.ensures.updates in
    rw (← c.in-Some.ensures) (gains_one c.in-Some.task.now name (contains name_cmp c.args.tails.now name) (contains name_cmp c.insert.new.self name) (updates.0 name))
