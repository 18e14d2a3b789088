use Rattle.compact.proofs.Filling.{puts_read, puts_both}
use Rattle.compact.proofs.fill.put_alone.Goals as goal

pub returns-clause-puts : goal.returns-clause-puts
returns-clause-puts g c =
    let to = c.args.to.now in
    let mid = c.need.new.self in
    puts_both to mid c.put_fitting.new.to (puts_read to mid c.need.ensures.reads.keeps.base c.need.ensures.reads.left) c.put_fitting.ensures.puts
