use Rattle.std.proofs.Common.{◌∙◌, length}
use Rattle.record_log.specs.Frames.{frames_of}
use Rattle.record_log.proofs.Places.{within_told, within_room, within_shown}
use Rattle.record_log.proofs.log.Log.read_span.Goals as goal

pub read_at-requires : goal.read_at-requires
read_at-requires g c told =
    let log = c.args.self.now in
    let bytes = g.S.StoreDevice.content log.device in
    let t = within_told bytes log.mark c.args.at (length c.args.to.now) (g.met.S.StoreDevice.are_bytes log.device told) (log.front told) (c.requires told) in
    within_room bytes (frames_of bytes) c.args.at (length c.args.to.now) t (c.requires told)

pub returns-clause-value : goal.returns-clause-value
returns-clause-value g c told =
    let log = c.args.self.now in
    let bytes = g.S.StoreDevice.content log.device in
    let t = within_told bytes log.mark c.args.at (length c.args.to.now) (g.met.S.StoreDevice.are_bytes log.device told) (log.front told) (c.requires told) in
    c.in_ok-read_at.ensures.value told ∙ within_shown bytes (frames_of bytes) c.args.at (length c.args.to.now) t (c.requires told)
