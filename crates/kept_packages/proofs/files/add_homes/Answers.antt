use Rattle.std.proofs.Common.{subst}
use Rattle.task_inputs.specs.Folders.{IsFound}
use Rattle.kept_packages.specs.Steps.{IsHomeIn}
use Rattle.kept_packages.proofs.Gains.{gains_next, homes_splits}
use Rattle.kept_packages.proofs.Indexing.{home_found}
use Rattle.kept_packages.proofs.Needing.{home_gain}
use Rattle.kept_packages.proofs.files.add_homes.Goals as goal

pub loop-path-preserved : goal.loop-path-preserved
loop-path-preserved c = λ space proper index.
    let path = c.path-item.result in
    let found = subst (λ names. IsFound c.args.folders.now names c.number_above.result) c.components.ensures.value c.number_above.ensures in
    gains_next space (IsHomeIn space) (homes_splits space) c.args.paths.now c.loop-path.path-index path c.args.found.now.items c.loop-path.found.items c.add_number.new.found.items c.loop-path-test.true c.path-item.is (c.loop-path.invariant space proper index)
    (home_gain space path c.number_above.result c.loop-path.found.items c.add_number.new.found.items (home_found space proper c.args.folders.now index path c.number_above.result found) c.in_ok-add_number.ensures.added)
