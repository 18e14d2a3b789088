use Rattle.std.proofs.Common.{rules, ◌≡◌, ◌∙◌, ap, length}
use Rattle.record_log.specs.Frames.{frames_of}
use Rattle.record_log.proofs.Appending.{length-seats_from}
use Rattle.record_log.proofs.log.Log.frames.Goals as goal

pub returns-clause-frames : goal.returns-clause-frames
returns-clause-frames g c whole told =
    let kept = c.args.self.now.kept whole told in
    let es = frames_of (g.S.StoreDevice.content c.args.self.now.device) in
    let count : length c.args.self.now.mark.seats.items ≡ length es = ap length kept.index.seats ∙ length-seats_from es 8 in
    search (rules, count)

pub returns-clause-few : goal.returns-clause-few
returns-clause-few g c told =
    let few = (c.args.self.now.front told).few in
    search (rules, few)
