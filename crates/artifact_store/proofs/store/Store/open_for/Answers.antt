use Rattle.record_log.specs.Frames.{frames_of}
use Rattle.artifact_store.proofs.store.Store.open_for.Goals as goal

pub resume-requires : goal.resume-requires
resume-requires g c told = c.new.ensures.mark (frames_of (g.S.StoreDevice.content c.args.store))
