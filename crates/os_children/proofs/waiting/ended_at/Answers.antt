use Rattle.std.proofs.Common.{◌∙◌}
use Rattle.std.proofs.Math.Seq.{map-set_same}
use Rattle.os_children.proofs.waiting.ended_at.Goals as goal

pub returns-then-has_ended-clause-kept : goal.returns-then-has_ended-clause-kept
returns-then-has_ended-clause-kept g c = map-set_same _ c.loop-place.running c.loop-place.place c.has_ended.new.self c.index-running-place.result c.has_ended.ensures ∙ c.loop-place.invariant

pub loop-place-preserved : goal.loop-place-preserved
loop-place-preserved g c = map-set_same _ c.loop-place.running c.loop-place.place c.has_ended.new.self c.index-running-place.result c.has_ended.ensures ∙ c.loop-place.invariant
