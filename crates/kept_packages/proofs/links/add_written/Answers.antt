use Rattle.kept_packages.specs.Steps.{IsWrittenIn}
use Rattle.kept_packages.proofs.Gains.{gains_next, written_splits}
use Rattle.kept_packages.proofs.Needing.{written_gain}
use Rattle.kept_packages.proofs.links.add_written.Goals as goal

pub loop-text-preserved : goal.loop-text-preserved
loop-text-preserved c = λ space index.
    let text = c.text-item.result in
    gains_next space (IsWrittenIn space) (written_splits space) c.args.texts.now c.loop-text.text-index text c.args.found.now.items c.loop-text.found.items c.add_number.new.found.items c.loop-text-test.true c.text-item.is (c.loop-text.invariant space index)
    (written_gain space text c.in_ok-number_by.field-0 c.loop-text.found.items c.add_number.new.found.items (c.in_ok-number_by.ensures.number space index) c.in_ok-add_number.ensures.added)
