use Rattle.pair_frames.specs.Joins.{pairs_from-append, pairs_in-append, pairs_in-none}
use Rattle.pair_frames.proofs.laws.pairs_law.Goals as goal

pub returns : goal.returns
returns c = record { append = pairs_from-append; stay = pairs_in-append; none = pairs_in-none }
