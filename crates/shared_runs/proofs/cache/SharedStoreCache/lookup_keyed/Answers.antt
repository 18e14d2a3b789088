use Rattle.std.proofs.Common.{◌∙◌, refl, ap}
use Rattle.cache_api.specs.Keys.{text_of as key_text}
use Rattle.shared_runs.proofs.Calls.{sees_passed, kept_passed, passed_store, ok_read, found_there}
use Rattle.shared_runs.proofs.Ending.{some_of}
use Rattle.shared_runs.proofs.Passed.{reads_view, sees_below}
use Rattle.shared_runs.proofs.Stepping.{looks_steps}
use Rattle.shared_runs.proofs.cache.SharedStoreCache.lookup_keyed.Goals as goal

pub invariant_of-self : goal.invariant_of-self
invariant_of-self g c =
    let old = c.args.self.now in
    let (m, was) = some_of old.turns.mark c.requires in
    let turn = c.look.ensures.turn in
    let stays = λ (told : g.H.Device.StoreDevice.tells).
    g.met.H.Shared.stays old.turns.shared told (old.sees told).sound in
    record {
      idle = turn.held;
      undamaged = λ told. turn.undamaged told ∙ old.undamaged told;
      below = old.below;
      sees = sees_passed old c.look.new.self m was stays turn;
      kept = kept_passed old c.look.new.self m was stays turn;
    }

pub look-requires-clause-below : goal.look-requires-clause-below
look-requires-clause-below g c told =
    let old = c.args.self.now in
    let (m, was) = some_of old.turns.mark c.requires in
    sees_below old old m was told

pub returns-clause-reads : goal.returns-clause-reads
returns-clause-reads g c =
    let old = c.args.self.now in
    let (m, was) = some_of old.turns.mark c.requires in
    let turn = c.look.ensures.turn in
    let stays = λ (told : g.H.Device.StoreDevice.tells).
    g.met.H.Shared.stays old.turns.shared told (old.sees told).sound in
    reads_view old _ m was refl turn.began turn.first c.look.ensures.room turn.grows turn.reads
    turn.ended stays

pub returns-clause-found : goal.returns-clause-found
returns-clause-found g c told =
    let old = c.args.self.now in
    let (m, was) = some_of old.turns.mark c.requires in
    let stays = λ (told : g.H.Device.StoreDevice.tells).
    g.met.H.Shared.stays old.turns.shared told (old.sees told).sound in
    found_there old c.look.new.self m was stays c.look.ensures.turn (key_text c.args.key)
    c.args.outs.now c.look.result c.look.ensures.stays told (c.look.ensures.found told)

pub returns-clause-images : goal.returns-clause-images
returns-clause-images g c told = c.look.ensures.turn.first told

pub returns-clause-steps : goal.returns-clause-steps
returns-clause-steps g c told =
    let old = c.args.self.now in
    let (m, was) = some_of old.turns.mark c.requires in
    let turn = c.look.ensures.turn in
    let stays = λ (told : g.H.Device.StoreDevice.tells).
    g.met.H.Shared.stays old.turns.shared told (old.sees told).sound in
    let new = passed_store old c.look.new.self m was stays turn in
    let reads = reads_view old new m was refl turn.began turn.first c.look.ensures.room turn.grows
    turn.reads turn.ended stays in
    looks_steps old _ m was (stays told) (λ t. ap (λ b. b t) reads.keeps.base) c.look.result
    (key_text c.args.key) c.args.outs.now
    (found_there old c.look.new.self m was stays turn (key_text c.args.key) c.args.outs.now
    c.look.result c.look.ensures.stays told (c.look.ensures.found told))
    (reads.pairs told) c.look.ensures.stays c.look.ensures.dropped
    (ok_read old c.look.new.self m was stays turn c.look.result c.look.ensures.stays told)
    (turn.first told).file
