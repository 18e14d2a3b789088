use Rattle.kept_packages.specs.Steps.{NamesOwner}
use Rattle.kept_packages.proofs.Gains.{gains_next, names_splits}
use Rattle.kept_packages.proofs.tasks.add_texts.Goals as goal

pub loop-text-preserved : goal.loop-text-preserved
loop-text-preserved c =
    let space = c.args.packages.now in
    gains_next space (NamesOwner space) (names_splits space) c.args.texts.now c.loop-text.text-index c.text-item.result c.args.found.now.items c.loop-text.found.items c.add_text.new.found.items c.loop-text-test.true c.text-item.is c.loop-text.invariant c.in_ok-add_text.ensures.added
