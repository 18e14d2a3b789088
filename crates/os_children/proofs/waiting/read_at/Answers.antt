use Rattle.std.proofs.Math.Seq.{map-set_same}
use Rattle.os_children.proofs.waiting.read_at.Goals as goal

pub returns-then-place-running : goal.returns-then-place-running
returns-then-place-running g c = map-set_same _ c.args.running.now c.args.place c.read.new.self c.index-running-place.result c.read.ensures
