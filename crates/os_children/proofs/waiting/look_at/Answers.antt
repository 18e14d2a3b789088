use Rattle.std.proofs.Common.{◌∙◌}
use Rattle.std.proofs.Math.Seq.{map-set_same}
use Rattle.os_children.proofs.waiting.look_at.Goals as goal

pub loop-place-preserved : goal.loop-place-preserved
loop-place-preserved g c = map-set_same _ c.loop-place.running c.loop-place.place c.look.new.self c.index-running-place.result c.look.ensures ∙ c.loop-place.invariant
