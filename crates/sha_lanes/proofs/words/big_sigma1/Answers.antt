use Rattle.std.proofs.Common.{refl}
use Rattle.sha_lanes.proofs.Four.{below_four, four_is}
use Rattle.sha_lanes.proofs.words.big_sigma1.Goals as goal

pub returns : goal.returns
returns c = rw (four_is c.args.x c.fits-x.0) (below_four _ refl refl refl refl)
