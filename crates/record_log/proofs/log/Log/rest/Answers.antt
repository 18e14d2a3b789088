use Rattle.std.proofs.Common.{◌∙◌, ap, length}
use Rattle.record_log.specs.Frames.{frames_of}
use Rattle.record_log.proofs.Appending.{length-seats_from}
use Rattle.record_log.proofs.log.Log.rest.Goals as goal

pub returns-clause-all : goal.returns-clause-all
returns-clause-all g c whole told =
    let kept = c.args.self.kept whole told in
    ap length kept.index.seats ∙ length-seats_from (frames_of (g.S.StoreDevice.content c.args.self.device)) 8

pub returns-clause-mark : goal.returns-clause-mark
returns-clause-mark g c told = (c.args.self.front told).index
