use Rattle.pair_index.specs.Lengths.{ascend_of}
use Rattle.pair_index.proofs.keys.Keys.cleared.Goals as goal

pub new-requires : goal.new-requires
new-requires c = ascend_of c.args.self.lengths c.args.self.ascend
