use Rattle.std.proofs.Common.{refl}
use Rattle.sha_lanes.proofs.Texts.{later}
use Rattle.sha_lanes.proofs.lane.Lane.after.Goals as goal

pub returns : goal.returns
returns c = record {
  place = refl;
  blocks = refl;
  done = refl;
  under_way = λ text bytes held next enough taken. later text c.args.self.now bytes c.args.count _ held next enough c.requires taken;
}
