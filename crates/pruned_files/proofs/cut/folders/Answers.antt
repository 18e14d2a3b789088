use Rattle.pruned_files.proofs.Members.{texts_more}
use Rattle.pruned_files.proofs.cut.folders.Goals as goal

pub loop-number-preserved : goal.loop-number-preserved
loop-number-preserved c =
    texts_more c.args.packages.now c.args.numbers.now c.loop-number.number-index c.folder.result.now c.in_ok-text.field-0 c.loop-number.texts c.push.new.self c.loop-number-test.true c.requires c.folder.ensures c.in_ok-text.ensures.value c.loop-number.invariant c.in_ok-push.ensures.pushed
