use Rattle.std.proofs.Common.{◌-◌, take, drop, length}
use Rattle.std.proofs.lemmas.Result.{err_from_is_err_and}
use Rattle.artifact_store.specs.Store.{state_of, frames_of, device_of}
use Rattle.compact.proofs.Seeking.{pairs_read}
use Rattle.compact.proofs.Filling.{puts_none}
use Rattle.compact.proofs.Parts.{filling_first, filling_next, filling_pairs, filling_room, filling_lacks, behind_is, useful_behind}
use Rattle.compact.proofs.fill.fill.Goals as goal

pub loop-place-init : goal.loop-place-init
loop-place-init g c =
    filling_first c.args.numbers.now c.args.from.now c.args.to.now c.requires.to_whole
    (puts_none c.args.to.now c.requires.to_whole (g.met.P.StoreDevice.only_now (device_of c.args.to.now)))

pub loop-place-preserved : goal.loop-place-preserved
loop-place-preserved g c =
    let numbers = c.args.numbers.now in
    let place = c.loop-place.place in
    let part = take (length numbers - place) (drop place numbers) in
    filling_next numbers c.args.from.now c.loop-place.from c.put_some.new.from c.args.to.now c.loop-place.to c.put_some.new.to place c.in_ok-taken.taken part (behind_is numbers place) c.loop-place.invariant
    c.put_some.ensures.reads c.in_ok-taken.ensures.cause.counted.0 c.put_some.ensures.puts c.in_ok-taken.ensures.whole c.in_ok-taken.ensures.cause.counted.1
    c.in_ok-taken.ensures.taken.1 c.in_ok-taken.ensures.pairs c.in_ok-taken.ensures.room

pub put_some-requires-clause-useful : goal.put_some-requires-clause-useful
put_some-requires-clause-useful g c told =
    let numbers = c.args.numbers.now in
    let place = c.loop-place.place in
    useful_behind (state_of c.args.from.now).pairs (state_of c.loop-place.from).pairs numbers (take (length numbers - place) (drop place numbers)) place
    (pairs_read c.args.from.now c.loop-place.from c.loop-place.invariant.reads) (behind_is numbers place) (c.requires.useful told)

pub returns-in_err-taken-clause-room : goal.returns-in_err-taken-clause-room
returns-in_err-taken-clause-room g c told tells =
    let numbers = c.args.numbers.now in
    let place = c.loop-place.place in
    let part = take (length numbers - place) (drop place numbers) in
    let p = err_from_is_err_and c.from_residual.result c.from_residual.ensures.1 in
    rw (p.1, p.2) (filling_lacks numbers c.in_err-taken.field-0.0 c.args.from.now c.loop-place.from c.args.to.now c.loop-place.to (frames_of c.put_some.new.to) (frames_of c.put_some.new.to) place part
    (behind_is numbers place) c.loop-place.invariant (c.in_err-taken.ensures.room told tells) told tells)

pub returns-clause-pairs : goal.returns-clause-pairs
returns-clause-pairs g c told tells =
    filling_pairs c.args.numbers.now c.args.from.now c.loop-place.from c.args.to.now c.loop-place.to c.loop-place.place c.loop-place.invariant c.loop-place-test.false told tells

pub returns-clause-room : goal.returns-clause-room
returns-clause-room g c told tells =
    filling_room c.args.numbers.now c.args.from.now c.loop-place.from c.args.to.now c.loop-place.to c.loop-place.place c.loop-place.invariant c.loop-place-test.false told tells
