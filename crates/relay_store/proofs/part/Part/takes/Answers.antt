use Rattle.std.proofs.Common.{◌≡◌, ◌<◌, ◌^◌, List, ap, arith}
use Rattle.std.proofs.lemmas.Bool.{leb-true}
use Rattle.record_log.specs.Kinds.{Entry}
use Rattle.blob_pool.specs.Laws.{frames_read}
use Rattle.pair_frames.specs.Puts.{put_size}
use Rattle.pair_writer.specs.Putting.{new_pair}
use Rattle.artifact_store.specs.Store.{frames_of, state_of}
use Rattle.relay_store.proofs.part.Part.takes.Goals as goal

pub returns-clause-fit : goal.returns-clause-fit
returns-clause-fit g c told fits =
    let old = c.in-Some.store in
    let new = c.need.new.self in
    let pair = new_pair c.args.pair in
    let same : frames_of new ≡ frames_of old = frames_read old.log new.log
    c.need.ensures.store.log in
    let le = leb-true c.in_ok-need.need c.free.result fits in
    let room : (state_of new).room < 2 ^ 63 = omega arith in
    let need = c.in_ok-need.ensures.need told in
    let size = ap (λ (l : List Entry). put_size l pair) same in
    record {
      size = omega (arith, le, c.free.ensures, need, size, room);
      ample = omega (arith, le, c.free.ensures, need, size, room, c.in_ok-need.ensures.ample);
    }
