use Rattle.std.proofs.Common.{◌≡◌, None, get_or, arith}
use Rattle.cache_api.specs.Cache.{ample}
use Rattle.cache_api.specs.Memory.{capped}
use Rattle.cache_api.specs.Reading.{artifact_in}
use Rattle.pair_frames.specs.Laws.{AreTexts}
use Rattle.artifact_store.specs.Store.{state_of}
use Rattle.compact.specs.Picks.{pair_of, held_pair}
use Rattle.compact.proofs.Batching.{batch_push, batch_skip, if_none, if_some}
use Rattle.compact.proofs.fill.batch_of.Goals as goal

pub loop-taken-preserved-in_default : goal.loop-taken-preserved-in_default
loop-taken-preserved-in_default g c =
    let numbers = c.args.numbers.now in
    let mid = c.loop-taken.from in
    let i = c.loop-taken.taken in
    batch_skip numbers c.min-most.result c.args.from.now mid c.read_held.new.from c.loop-taken.held.items c.loop-taken.room i c.loop-taken.invariant
    c.read_held.ensures.reads c.in_ok-pair.ensures.cause.counted c.loop-taken-test.true c.requires.useful
    (λ told. if_none c.in_ok-pair.field-0 (artifact_in (pair_of (state_of mid).pairs (get_or numbers i 0)).1 ≡ None) c.in_default.is (c.in_ok-pair.ensures.none told))

pub loop-taken-preserved : goal.loop-taken-preserved
loop-taken-preserved g c =
    let numbers = c.args.numbers.now in
    let mid = c.loop-taken.from in
    let i = c.loop-taken.taken in
    let one = c.in-Some.pair in
    batch_push numbers c.min-most.result c.args.from.now mid c.read_held.new.from c.loop-taken.held.items c.push.new.self.items one c.loop-taken.room c.saturating_add-room.result i c.loop-taken.invariant
    c.read_held.ensures.reads c.in_ok-pair.ensures.cause.counted c.in_ok-push.ensures.items
    (if_some c.in_ok-pair.field-0 one (λ h. AreTexts (held_pair h)) c.in-Some.is c.in_ok-pair.ensures.texts)
    (if_some c.in_ok-pair.field-0 one (λ h. h.room ≡ capped (ample (held_pair h))) c.in-Some.is c.in_ok-pair.ensures.room)
    c.saturating_add-room.ensures c.if-room-most.false (omega (arith, c.min-most.ensures)) c.loop-taken-test.true
    (λ told. if_some c.in_ok-pair.field-0 one (λ h. held_pair h ≡ pair_of (state_of mid).pairs (get_or numbers i 0)) c.in-Some.is (c.in_ok-pair.ensures.pair told))
