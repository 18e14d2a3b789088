-- The store was opened and run over, or it is none.
use Rattle.std.proofs.Common.{ℕ, inl, inr, true, refl, subst}
use Rattle.record_log.specs.Frames.{ReadsAsOneOf}
use Rattle.artifact_store.specs.Store.{device_of, lengths_of, state_of}
use Rattle.artifact_store.specs.Pairs.{told_as}
use Rattle.compact.specs.Current.{generation_in}
use Rattle.store_dev.specs.Moments.{leaves_then}
use Rattle.answers.specs.Facts.{cause_of_run, if_fault, if_refused}
use Rattle.answers.specs.Moments.{moment_of}
use Rattle.store_answers.specs.Facts.{no_store}
use Rattle.store_answers.specs.Stores.{held_by}
use Rattle.cache_runs.specs.Openings.{opening_at}
use Rattle.cache_runs.proofs.Stopped.{unstarted}
use Rattle.second_runs.proofs.Handing.{opened_adds, opened_generation}
use Rattle.second_runs.proofs.Reading.{reads_add, reads_left}
use Rattle.run_orders.specs.Facts.{long_read}
use Rattle.run_orders.specs.Images.{IsLeftByRun, IsLeftInStore}
use Rattle.run_orders.proofs.over_store.run_plan.Goals as goal

pub returns-in-Err-clause-cause : goal.returns-in-Err-clause-cause
returns-in-Err-clause-cause g c =
    cause_of_run _ _ c.unopened.result
    (c.unopened.ensures.cause (g.W.Tree.state c.args.world.now).faults
    (g.W.Spawner.runs c.args.world.now).faults (g.S.StoreDevice.store_faults c.args.store)
    (g.S.StoreDevice.store_faults c.in-Err.field-0.store) c.in-Err.ensures.unopened.cause)

pub returns-in-Ok-clause-ran : goal.returns-in-Ok-clause-ran
returns-in-Ok-clause-ran g c told store =
    c.run_store.ensures.ran told store (held_by (g.S.StoreDevice.content c.args.store))
    (c.in-Ok.ensures.opened.pairs store)

pub returns-in-Ok-clause-stopped : goal.returns-in-Ok-clause-stopped
returns-in-Ok-clause-stopped g c told store heard kept =
    if_fault c.run_store.result.0 _ _ (λ cause line stops. inr (
      (state_of c.in-Ok.opened).pairs,
      c.in-Ok.ensures.opened.pairs store,
      stops,
    ))
    (c.run_store.ensures.stopped told store heard (held_by (g.S.StoreDevice.content c.args.store))
    kept)

pub returns-in-Err-clause-stopped : goal.returns-in-Err-clause-stopped
returns-in-Err-clause-stopped g c told store heard kept =
    let reasons = no_store c.args.file c.in-Err.field-0.fault
    (g.S.StoreDevice.content c.args.store) (c.in-Err.ensures.unopened.fault store) in
    if_fault c.unopened.result _ _
    (λ cause line early. inl (unstarted _ _ reasons _ _ refl refl cause line early))
    (c.unopened.ensures.stopped heard)

pub returns-in-Err-clause-same : goal.returns-in-Err-clause-same
returns-in-Err-clause-same g c store =
    let stored = g.S.StoreDevice.content c.args.store in
    let unopened = c.in-Err.ensures.unopened in
    if_refused c.unopened.result _ _
    (λ reason is. let no = no_store c.args.file c.in-Err.field-0.fault stored (unopened.fault store)
    reason is in
    unopened.same store (long_read stored no.fault no.reads))
    c.unopened.ensures.refused

pub returns-in-Ok-clause-sound : goal.returns-in-Ok-clause-sound
returns-in-Ok-clause-sound g c store =
    opened_adds c.args.store (lengths_of c.in-Ok.opened) c.in-Ok.opened c.in-Ok.ensures.opened store true
    (g.met.S.StoreDevice.as_it_reads c.args.store store) c.run_store.result.1
    (c.run_store.ensures.sound store)

pub returns-in-Err-clause-sound : goal.returns-in-Err-clause-sound
returns-in-Err-clause-sound g c store =
    reads_add g.S.StoreDevice c.args.store c.in-Err.field-0.store
    (c.in-Err.ensures.unopened.images store) true

pub returns-in-Ok-clause-left : goal.returns-in-Ok-clause-left
returns-in-Ok-clause-left g c told store trusted =
    let s = g.S.StoreDevice in
    let images = s.images c.args.store in
    let opened = c.in-Ok.ensures.opened in
    let pairs = (state_of c.in-Ok.opened).pairs in
    let base = (state_of c.in-Ok.opened).base in
    let plan = c.args.plan.now in
    let runs = g.W.Spawner.runs c.args.world.now in
    let book = g.W.Spawner.effect runs.book in
    let old = moment_of (g.W.Tree.state c.args.world.now) runs (held_by (s.content c.args.store))
    (g.K.Sink.written c.args.out.now) in
    let steps = (g.W.Spawner.runs c.run_store.new.world).steps in
    let same = opened_generation c.args.store (lengths_of c.in-Ok.opened) c.in-Ok.opened opened store in
    leaves_then s.moment s.images_since c.args.store (device_of c.in-Ok.opened) c.run_store.result.1
    (ReadsAsOneOf images)
    (λ image. IsLeftByRun c.args.is_dry plan (opening_at book old pairs) steps (told_as base image))
    (IsLeftInStore c.args.is_dry book plan old steps (generation_in (s.content c.args.store))
    images)
    (opened.images store) (c.run_store.ensures.left told store (trusted pairs (opened.pairs store)))
    (λ image one. inl one)
    (λ image left. inr (
      pairs,
      opened.pairs store,
      subst (λ (n : ℕ). IsLeftByRun c.args.is_dry plan
          (opening_at book old pairs) steps (told_as n image)) same left,
    ))

pub returns-in-Err-clause-left : goal.returns-in-Err-clause-left
returns-in-Err-clause-left g c told store trusted =
    reads_left g.S.StoreDevice c.args.store c.in-Err.field-0.store
    (c.in-Err.ensures.unopened.images store) _
