use Rattle.std.proofs.Common.{◌≡◌, length, ap, arith}
use Rattle.std.proofs.lemmas.List.{length-map}
use Rattle.blob_pool.specs.Known.{known_in}
use Rattle.pair_writer.specs.Held.{staged_entry}
use Rattle.pair_writer.specs.Staged.{entries}
use Rattle.pair_writer.specs.Putting.{new_pair}
use Rattle.pair_writer.proofs.Pairs.{offer_fits, offer_full, back_is}
use Rattle.pair_writer.proofs.putting.offer.Goals as goal

pub returns-then-size-room-clause-offered : goal.returns-then-size-room-clause-offered
returns-then-size-room-clause-offered g c told =
    offer_fits c.args.room (known_in c.args.log.now) c.args.staged.now c.stage.new.staged (new_pair c.args.pair) (c.in_ok-stage.ensures.frames told) (omega (arith, c.if-size-room.true, c.size.ensures))

pub returns-clause-offered : goal.returns-clause-offered
returns-clause-offered g c told =
    let s = c.args.staged.now in
    let t = c.stage.new.staged in
    let n = length c.as_slice-frames.result.now in
    let many : n ≡ length (entries s) = omega (arith, length-map c.as_slice-frames.result.now staged_entry, ap length c.as_slice-frames.ensures) in
    let back = back_is (entries s) (entries t) (entries c.take_back.new.self) n c.in_ok-stage.ensures.grown many c.in_ok-take_back.ensures in
    offer_full c.args.room (known_in c.args.log.now) s t c.take_back.new.self (new_pair c.args.pair) (c.in_ok-stage.ensures.frames told) c.requires.fits (omega (arith, c.if-size-room.false, c.size.ensures)) back
