use Rattle.std.proofs.Common.{[], get_or, arith}
use Rattle.record_log.specs.Kinds.{entry}
use Rattle.record_log.specs.Frames.{frames_of}
use Rattle.record_log.specs.Answers.{entry_of}
use Rattle.record_log.proofs.Places.{seat_known}
use Rattle.record_log.proofs.log.Log.frame_at.Goals as goal

pub read_frame-requires : goal.read_frame-requires
read_frame-requires g c told =
    let log = c.args.self.now in
    let content = g.S.StoreDevice.content log.device in
    let e = entry 0 [] [] in
    (get_or (frames_of content) c.args.number e, seat_known content log.mark c.args.number c.index-seat.result.now e (g.met.S.StoreDevice.are_bytes log.device told) (log.front told) c.requires c.index-seat.ensures)

pub returns-clause-frame : goal.returns-clause-frame
returns-clause-frame g c told =
    let log = c.args.self.now in
    let content = g.S.StoreDevice.content log.device in
    let e = entry_of c.in_ok-frame.frame in
    let there = seat_known content log.mark c.args.number c.index-seat.result.now e (g.met.S.StoreDevice.are_bytes log.device told) (log.front told) c.requires c.index-seat.ensures in
    (omega (arith, c.requires, (log.front told).few), c.in_ok-frame.ensures.frame told (get_or (frames_of content) c.args.number e) there)
