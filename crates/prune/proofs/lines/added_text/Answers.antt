use Rattle.std.specs.Prelude.{string_bytes}
use Rattle.prune.proofs.Printing.{lines_more}
use Rattle.prune.proofs.lines.added_text.Goals as goal

pub loop-number-preserved : goal.loop-number-preserved
loop-number-preserved c = lines_more c.args.packages.now c.args.numbers.now c.loop-number.number-index (string_bytes c.loop-number.text) (string_bytes c.add_owner.new.text) c.loop-number-test.true c.loop-number.invariant c.in_ok-add_owner.ensures.added
