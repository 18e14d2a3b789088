use Rattle.closures.proofs.Sets.{last_of_range}
use Rattle.closures.proofs.places.last_below.Goals as goal

pub returns : goal.returns
returns c =
    rw c.copied.ensures
    (last_of_range c.args.set.now c.args.place c.range.result c.next_back.new.self c.next_back.result (c.range.ensures.in_range tt) c.next_back.ensures.steps)
