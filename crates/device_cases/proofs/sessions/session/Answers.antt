use Rattle.std.proofs.Common.{List, [], ◌∷◌, ◌++◌, ℕ, subst, sym}
use Rattle.store_dev.specs.Device.{LeavesOnly}
use Rattle.store_dev.specs.Moments.{leaves_more, leaves_then}
use Rattle.cache_api.specs.Artifacts.{artifact}
use Rattle.cache_api.specs.Pairs.{Pair, pair_for, IsPartSince}
use Rattle.record_log.specs.Frames.{ReadsAsOneOf}
use Rattle.artifact_store.specs.Pairs.{told_as}
use Rattle.artifact_store.specs.Store.{device_of, state_of}
use Rattle.artifact_store.specs.Laws.{at_device}
use Rattle.device_cases.specs.Session.{IsLeftBy}
use Rattle.device_cases.proofs.Left.{opened, added}
use Rattle.device_cases.proofs.sessions.session.Goals as goal

pub returns-in-Err : goal.returns-in-Err
returns-in-Err g c told =
    let s = g.S.StoreDevice in
    let images = s.images c.args.device in
    let pair : Pair = pair_for c.args.key.now (artifact c.args.artifact.now) in
    leaves_more s.moment s.images_since c.args.device c.in-Err.unopened.store (ReadsAsOneOf images) (IsLeftBy images pair) (c.in-Err.ensures.unopened.images told) (opened images pair)

pub returns-in-Ok : goal.returns-in-Ok
returns-in-Ok g c told =
    let s = g.S.StoreDevice in
    let images = s.images c.args.device in
    let pair : Pair = pair_for c.args.key.now (artifact c.args.artifact.now) in
    let state = state_of c.in-Ok.opened in
    let Q : List ℕ → Type 0 = λ c. IsPartSince state.lasting (state.pairs ++ pair ∷ []) (told_as state.base c) in
    let kept = at_device c.in-Ok.opened c.keep.new.cache Q (c.keep.ensures told) in
    let next = subst (λ (d : g.row.S.Denot). LeavesOnly s.moment s.images_since (device_of c.in-Ok.opened) d Q) (sym c.device.ensures.device) kept in
    leaves_then s.moment s.images_since c.args.device (device_of c.in-Ok.opened) c.device.result (ReadsAsOneOf images) Q (IsLeftBy images pair) (c.in-Ok.ensures.opened.images told) next (opened images pair) (added images pair (s.content c.args.device) state.pairs (g.met.S.StoreDevice.as_it_reads c.args.device told) (c.in-Ok.ensures.opened.pairs told) state.base)
