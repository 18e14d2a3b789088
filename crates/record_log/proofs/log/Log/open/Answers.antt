use Rattle.record_log.specs.Frames.{frames_of}
use Rattle.record_log.proofs.Places.{mark_none}
use Rattle.record_log.proofs.log.Log.open.Goals as goal

pub resume-requires : goal.resume-requires
resume-requires g c told = mark_none c.new.result c.new.ensures.seats c.new.ensures.end c.new.ensures.contents c.new.ensures.generation (frames_of (g.S.StoreDevice.content c.args.store))
