use Rattle.std.proofs.Common.{true, false, take}
use Rattle.rel_path.proofs.Parts.{turn}
use Rattle.env_select.proofs.Indexed.{indexes_none, indexes_more}
use Rattle.env_select.proofs.list.EnvList.read.Goals as goal

pub loop-text-init : goal.loop-text-init
loop-text-init c = (indexes_none false c.new-included.result c.new-included.ensures, indexes_none true c.new-excluded.result c.new-excluded.ensures)

pub loop-text-preserved : goal.loop-text-preserved
loop-text-preserved c =
    let within = rw c.as_slice-text-items.ensures at c.loop-text-test.true in
    let item = rw c.as_slice-text-items.ensures at c.text-item.is in
    let step = turn c.args.texts.now c.loop-text.text-index c.text-item.result (within, item) in
    let before = c.loop-text.invariant in
    rw step.0 (
      indexes_more false (take c.loop-text.text-index c.args.texts.now) c.text-item.result c.loop-text.included c.add_text.new.included before.0 c.in_ok-add_text.ensures.included,
      indexes_more true (take c.loop-text.text-index c.args.texts.now) c.text-item.result c.loop-text.excluded c.add_text.new.excluded before.1 c.in_ok-add_text.ensures.excluded,
    )
