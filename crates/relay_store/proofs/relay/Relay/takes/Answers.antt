use Rattle.std.proofs.Common.{false, Ok, Err, refl}
use Rattle.std.proofs.lemmas.Bool.{and_parts}
use Rattle.std.proofs.lemmas.Result.{err_from_is_err_and}
use Rattle.cache_api.specs.Cache.{is_fault}
use Rattle.relay_store.specs.Parts.{state_of}
use Rattle.relay_store.proofs.Asked.{on_ok}
use Rattle.relay_store.proofs.Counting.{counts_local, counts_second}
use Rattle.relay_store.proofs.Putting.{ok_whole, counts_ok, putting_asked, moved_in}
use Rattle.relay_store.proofs.Relays.{unread}
use Rattle.relay_store.proofs.relay.Relay.takes.Goals as goal

pub returns-in_err-takes-in-true-true-clause-putting
    : goal.returns-in_err-takes-in-true-true-clause-putting
returns-in_err-takes-in-true-true-clause-putting g c =
    let r = c.args.self.now in
    let parts = and_parts _ _ c.requires in
    let both = and_parts _ _ parts.1 in
    let p = err_from_is_err_and c.from_residual.result c.from_residual.ensures.1 in
    let e = c.in_err-takes-in-true-true.field-0.0 in
    let x = c.in_err-takes-in-true-true.ensures.asked in
    rw (p.1, p.2)
    (putting_asked r _ (Err e) refl refl refl parts.0
    (unread g.met.S.StoreDevice.only_now r.local both.0) x.read tt tt x.answers
    (counts_second is_fault _ _ (state_of r.local).faults (state_of r.local).faults (Err e)
    x.cause refl))

pub returns-then-not-branch-clause-putting : goal.returns-then-not-branch-clause-putting
returns-then-not-branch-clause-putting g c =
    let r = c.args.self.now in
    let parts = and_parts _ _ c.requires in
    let both = and_parts _ _ parts.1 in
    let x = c.in_ok-takes-in-true-true.ensures.asked in
    putting_asked r _ (Ok false) refl refl refl parts.0
    (unread g.met.S.StoreDevice.only_now r.local both.0) x.read refl x.whole tt
    (counts_second is_fault _ _ (state_of r.local).faults (state_of r.local).faults (Ok false)
    (counts_ok _ _ _ false x.cause) refl)

pub returns-else-not-branch-clause-local : goal.returns-else-not-branch-clause-local
returns-else-not-branch-clause-local g c =
    moved_in _ _ _ c.takes-in-true-true.result _ c.takes-in-true-true.ensures.fit

pub returns-else-not-branch-clause-putting : goal.returns-else-not-branch-clause-putting
returns-else-not-branch-clause-putting g c =
    let r = c.args.self.now in
    let parts = and_parts _ _ c.requires in
    let x = c.takes-in-true-true.ensures.asked in
    let y = c.in_ok-takes-in-true-true.ensures.asked in
    let result = c.takes-in-true-true.result in
    putting_asked r _ result refl refl refl parts.0 x.read y.read
    (ok_whole result _ _ x.whole) (on_ok result y.whole) x.answers
    (counts_local is_fault _ _ (state_of r.second).faults _ result x.cause y.cause.counted)

pub returns-in-true-false-clause-putting : goal.returns-in-true-false-clause-putting
returns-in-true-false-clause-putting g c =
    let r = c.args.self.now in
    let parts = and_parts _ _ c.requires in
    let both = and_parts _ _ parts.1 in
    let x = c.takes-in-true-false.ensures.asked in
    let result = c.takes-in-true-false.result in
    putting_asked r _ result refl refl refl parts.0 x.read
    (unread g.met.R.StoreDevice.only_now r.second both.1)
    (ok_whole result _ _ x.whole) (on_ok result refl) x.answers
    (counts_local is_fault _ _ (state_of r.second).faults _ result x.cause refl)

pub returns-in-false-default-clause-putting : goal.returns-in-false-default-clause-putting
returns-in-false-default-clause-putting g c =
    let r = c.args.self.now in
    let parts = and_parts _ _ c.requires in
    let both = and_parts _ _ parts.1 in
    let x = c.takes-in-false-default.ensures.asked in
    let result = c.takes-in-false-default.result in
    putting_asked r _ result refl refl refl parts.0
    (unread g.met.S.StoreDevice.only_now r.local both.0) x.read
    (on_ok result refl) (ok_whole result _ _ x.whole) x.answers
    (counts_second is_fault _ _ (state_of r.local).faults _ result x.cause refl)

-- each store was read or not called

pub returns-in_err-takes-in-true-true-clause-local_read
    : goal.returns-in_err-takes-in-true-true-clause-local_read
returns-in_err-takes-in-true-true-clause-local_read g c =
    let both = and_parts _ _ (and_parts _ _ c.requires).1 in
    unread g.met.S.StoreDevice.only_now c.args.self.now.local both.0

pub returns-then-not-branch-clause-local_read : goal.returns-then-not-branch-clause-local_read
returns-then-not-branch-clause-local_read g c =
    let both = and_parts _ _ (and_parts _ _ c.requires).1 in
    unread g.met.S.StoreDevice.only_now c.args.self.now.local both.0

pub returns-in-true-false-clause-second_read : goal.returns-in-true-false-clause-second_read
returns-in-true-false-clause-second_read g c =
    let both = and_parts _ _ (and_parts _ _ c.requires).1 in
    unread g.met.R.StoreDevice.only_now c.args.self.now.second both.1

pub returns-in-false-default-clause-local_read : goal.returns-in-false-default-clause-local_read
returns-in-false-default-clause-local_read g c =
    let both = and_parts _ _ (and_parts _ _ c.requires).1 in
    unread g.met.S.StoreDevice.only_now c.args.self.now.local both.0
