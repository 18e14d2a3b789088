-- The plan that is asked for was run, or there is none.
use Rattle.std.proofs.Common.{◌+◌, ◌∙◌, inl, inr, Err, refl, sym, ap, subst}
use Rattle.rel_path.specs.Causes.{Counts}
use Rattle.store_dev.specs.Moments.{leaves_more}
use Rattle.spawn_dev.specs.Spawn.{IsIdle}
use Rattle.refusals.specs.Stops.{is_failed}
use Rattle.answers.specs.Answers.{HasCauseIn, counts_of}
use Rattle.answers.specs.Facts.{if_fault, if_refused, not_done}
use Rattle.answers.specs.Stops.{raised}
use Rattle.cache_runs.proofs.Finished.{done_as}
use Rattle.cache_runs.proofs.Stopped.{unstarted}
use Rattle.second_runs.proofs.Reading.{alone_reread}
use Rattle.run_orders.specs.Facts.{self_both, alone_pairs, reread_other, unchanged}
use Rattle.run_orders.specs.Steps.{AsksAs}
use Rattle.run_orders.specs.Uses.{uses_of}
use Rattle.run_orders.proofs.Alone.{alone_puts, alone_shared}
use Rattle.run_orders.proofs.Alone.{keeps_local, keeps_second, keeps_shared}
use Rattle.run_orders.proofs.Causes.{cause_by}
use Rattle.run_orders.proofs.Only.{only_planned, only_asked}
use Rattle.run_orders.proofs.Using.{second_read}
use Rattle.run_orders.proofs.orders.run_order.Goals as goal

pub run_planned-requires-clause-idle : goal.run_planned-requires-clause-idle
run_planned-requires-clause-idle g c =
    subst (λ runs. IsIdle runs) (sym (g.met.W.Spawner.runs_by_rest _ _ c.asked.ensures.looks.rest))
    c.requires.idle

pub run_planned-requires-clause-second : goal.run_planned-requires-clause-second
run_planned-requires-clause-second g c is = second_read c.args.order.now
    (sym c.uses_of.ensures ∙ is)

-- ---- a plan

pub returns-in-Ok-clause-ran : goal.returns-in-Ok-clause-ran
returns-in-Ok-clause-ran g c told store spare second shared =
    let runs = g.met.W.Spawner.runs_by_rest _ _ c.asked.ensures.looks.rest in
    let asks = c.in-Ok.ensures.asks told in
    let known = rw (
      runs,
      c.asked.ensures.looks.files,
      c.uses_of.ensures,
    ) at (c.run_planned.ensures.ran told store spare second shared) in
    done_as _ _ c.run_planned.result.0 (λ status was. record {
      plan = c.in-Ok.plan;
      asks = asks;
      ran = was;
    }) known

pub returns-in-Ok-clause-lasts : goal.returns-in-Ok-clause-lasts
returns-in-Ok-clause-lasts g c store =
    rw c.uses_of.ensures at (c.run_planned.ensures.lasts store)

pub returns-in-Ok-clause-spare_lasts : goal.returns-in-Ok-clause-spare_lasts
returns-in-Ok-clause-spare_lasts g c spare =
    rw c.uses_of.ensures at (c.run_planned.ensures.spare_lasts spare)

pub returns-in-Ok-clause-second_lasts : goal.returns-in-Ok-clause-second_lasts
returns-in-Ok-clause-second_lasts g c second =
    rw c.uses_of.ensures at (c.run_planned.ensures.second_lasts second)

pub returns-in-Ok-clause-shared_lasts : goal.returns-in-Ok-clause-shared_lasts
returns-in-Ok-clause-shared_lasts g c shared =
    rw c.uses_of.ensures at (c.run_planned.ensures.shared_lasts shared)

pub returns-in-Ok-clause-refused : goal.returns-in-Ok-clause-refused
returns-in-Ok-clause-refused g c told store spare second shared =
    let asks = c.in-Ok.ensures.asks told in
    let known = rw c.uses_of.ensures at (c.run_planned.ensures.refused told store spare second
    shared) in
    if_refused c.run_planned.result.0 _ _
    (λ reason no. inr (record { plan = c.in-Ok.plan; asks = asks; none = no })) known

pub returns-in-Ok-clause-only : goal.returns-in-Ok-clause-only
returns-in-Ok-clause-only g c told store spare second shared =
    let known = rw c.uses_of.ensures at (c.run_planned.ensures.only told store spare second
    shared) in
    only_planned c.order_law.ensures c.args.order.now c.args.env.now _ c.in-Ok.plan _
    c.run_planned.result.0 (c.in-Ok.ensures.asks told) known

pub returns-in-Ok-clause-stopped : goal.returns-in-Ok-clause-stopped
returns-in-Ok-clause-stopped g c told store spare second shared heard =
    let runs = g.met.W.Spawner.runs_by_rest _ _ c.asked.ensures.looks.rest in
    let asks = c.in-Ok.ensures.asks told in
    let known = rw (
      runs,
      c.asked.ensures.looks.files,
      c.uses_of.ensures,
    ) at (c.run_planned.ensures.stopped told store spare second shared heard) in
    if_fault c.run_planned.result.0 _ _
    (λ cause line stops. inr (record { plan = c.in-Ok.plan; asks = asks; stops = stops })) known

pub returns-in-Ok-clause-kept : goal.returns-in-Ok-clause-kept
returns-in-Ok-clause-kept g c =
    rw c.uses_of.ensures at c.run_planned.ensures.kept

pub returns-in-Ok-clause-spare_kept : goal.returns-in-Ok-clause-spare_kept
returns-in-Ok-clause-spare_kept g c =
    rw c.uses_of.ensures at c.run_planned.ensures.spare_kept

pub returns-in-Ok-clause-second_kept : goal.returns-in-Ok-clause-second_kept
returns-in-Ok-clause-second_kept g c =
    rw c.uses_of.ensures at c.run_planned.ensures.second_kept

pub returns-in-Ok-clause-shared_kept : goal.returns-in-Ok-clause-shared_kept
returns-in-Ok-clause-shared_kept g c =
    rw c.uses_of.ensures at c.run_planned.ensures.shared_kept

pub returns-in-Ok-clause-sound : goal.returns-in-Ok-clause-sound
returns-in-Ok-clause-sound g c store spare second =
    rw c.uses_of.ensures at (c.run_planned.ensures.sound store spare second)

pub returns-in-Ok-clause-spare_sound : goal.returns-in-Ok-clause-spare_sound
returns-in-Ok-clause-spare_sound g c store spare second =
    rw c.uses_of.ensures at (c.run_planned.ensures.spare_sound store spare second)

pub returns-in-Ok-clause-second_sound : goal.returns-in-Ok-clause-second_sound
returns-in-Ok-clause-second_sound g c store spare second =
    rw c.uses_of.ensures at (c.run_planned.ensures.second_sound store spare second)

pub returns-in-Ok-clause-left : goal.returns-in-Ok-clause-left
returns-in-Ok-clause-left g c told store spare second shared trusted =
    let runs = g.met.W.Spawner.runs_by_rest _ _ c.asked.ensures.looks.rest in
    let asks = c.in-Ok.ensures.asks told in
    let known = rw (
      runs,
      c.asked.ensures.looks.files,
      c.uses_of.ensures,
    ) at (c.run_planned.ensures.left told store spare second shared) in
    λ f e one other. inr (c.in-Ok.plan, asks, known (trusted c.in-Ok.plan asks) f e one other)

pub returns-in-Ok-clause-second_left : goal.returns-in-Ok-clause-second_left
returns-in-Ok-clause-second_left g c told store spare second shared trusted =
    let runs = g.met.W.Spawner.runs_by_rest _ _ c.asked.ensures.looks.rest in
    let asks = c.in-Ok.ensures.asks told in
    let known = rw (
      runs,
      c.asked.ensures.looks.files,
      c.uses_of.ensures,
    ) at (c.run_planned.ensures.second_left told store spare second shared) in
    leaves_more g.R.StoreDevice.moment g.R.StoreDevice.images_since c.args.second
    c.run_planned.result.3 _ _ (known (trusted c.in-Ok.plan asks))
    (λ image was. inr (c.in-Ok.plan, asks, was))

pub returns-in-Ok-clause-shared_left : goal.returns-in-Ok-clause-shared_left
returns-in-Ok-clause-shared_left g c told store spare second shared trusted =
    let runs = g.met.W.Spawner.runs_by_rest _ _ c.asked.ensures.looks.rest in
    let asks = c.in-Ok.ensures.asks told in
    let known = rw (
      runs,
      c.asked.ensures.looks.files,
      c.uses_of.ensures,
    ) at (c.run_planned.ensures.shared_left told store spare second shared) in
    leaves_more g.H.Shared.moment g.H.Shared.images_since c.args.shared c.run_planned.result.4 _ _
    (known (trusted c.in-Ok.plan asks)) (λ image was. inr (c.in-Ok.plan, asks, was))

pub returns-in-Ok-clause-shared_adds : goal.returns-in-Ok-clause-shared_adds
returns-in-Ok-clause-shared_adds g c shared =
    let runs = g.met.W.Spawner.runs_by_rest _ _ c.asked.ensures.looks.rest in
    rw (runs, c.asked.ensures.looks.files, c.uses_of.ensures) at
    (c.run_planned.ensures.shared_adds shared)

-- ---- none

pub returns-in-Err-clause-ran : goal.returns-in-Err-clause-ran
returns-in-Err-clause-ran g c told store spare second shared =
    not_done c.tell_stop.result _ c.tell_stop.ensures.not_done

pub returns-in-Err-clause-lasts : goal.returns-in-Err-clause-lasts
returns-in-Err-clause-lasts g c store =
    not_done c.tell_stop.result _ c.tell_stop.ensures.not_done

pub returns-in-Err-clause-spare_lasts : goal.returns-in-Err-clause-spare_lasts
returns-in-Err-clause-spare_lasts g c spare =
    not_done c.tell_stop.result _ c.tell_stop.ensures.not_done

pub returns-in-Err-clause-second_lasts : goal.returns-in-Err-clause-second_lasts
returns-in-Err-clause-second_lasts g c second =
    not_done c.tell_stop.result _ c.tell_stop.ensures.not_done

pub returns-in-Err-clause-shared_lasts : goal.returns-in-Err-clause-shared_lasts
returns-in-Err-clause-shared_lasts g c shared =
    not_done c.tell_stop.result _ c.tell_stop.ensures.not_done

pub returns-in-Err-clause-refused : goal.returns-in-Err-clause-refused
returns-in-Err-clause-refused g c told store spare second shared =
    if_refused c.tell_stop.result _ _
    (λ reason is. inl (subst (λ stop. AsksAs c.args.order.now c.args.env.now
    (g.W.Tree.state c.args.world.now).files (Err stop)) is (c.in-Err.ensures.asks told)))
    c.tell_stop.ensures.refused

pub returns-in-Err-clause-only : goal.returns-in-Err-clause-only
returns-in-Err-clause-only g c told store spare second shared =
    only_asked c.order_law.ensures c.args.order.now c.args.env.now
    (g.W.Tree.state c.args.world.now).files _ c.tell_stop.result c.tell_stop.ensures.not_done
    (if_refused c.tell_stop.result _ _
    (λ reason is. subst (λ stop. AsksAs c.args.order.now c.args.env.now
    (g.W.Tree.state c.args.world.now).files (Err stop)) is (c.in-Err.ensures.asks told))
    c.tell_stop.ensures.refused)

pub returns-in-Err-clause-reread : goal.returns-in-Err-clause-reread
returns-in-Err-clause-reread g c store =
    if_refused c.tell_stop.result _ _ (λ reason is. alone_reread g.S.StoreDevice c.args.store
    (g.met.S.StoreDevice.only_now c.args.store)) c.tell_stop.ensures.refused

pub returns-in-Err-clause-spare_reread : goal.returns-in-Err-clause-spare_reread
returns-in-Err-clause-spare_reread g c spare =
    if_refused c.tell_stop.result _ _ (λ reason is. alone_reread g.P.StoreDevice c.args.spare
    (g.met.P.StoreDevice.only_now c.args.spare)) c.tell_stop.ensures.refused

pub returns-in-Err-clause-second_reread : goal.returns-in-Err-clause-second_reread
returns-in-Err-clause-second_reread g c second =
    if_refused c.tell_stop.result _ _ (λ reason is. alone_reread g.R.StoreDevice c.args.second
    (g.met.R.StoreDevice.only_now c.args.second)) c.tell_stop.ensures.refused

pub returns-in-Err-clause-stopped : goal.returns-in-Err-clause-stopped
returns-in-Err-clause-stopped g c told store spare second shared heard =
    let looks = c.asked.ensures.looks in
    let files = (g.W.Tree.state c.args.world.now).files in
    let steps = ap (λ runs. runs.steps) (g.met.W.Spawner.runs_by_rest _ _ looks.rest) in
    if_fault c.tell_stop.result _ _
    (λ cause line early. inl (unstarted _ _
    (λ reason is. subst (λ stop. AsksAs c.args.order.now c.args.env.now files (Err stop)) is
    (c.in-Err.ensures.asks told)) _ _ looks.files steps cause line early))
    (c.tell_stop.ensures.stopped heard)

pub returns-in-Err-clause-idle : goal.returns-in-Err-clause-idle
returns-in-Err-clause-idle g c =
    subst (λ runs. IsIdle runs) (sym (g.met.W.Spawner.runs_by_rest _ _ c.asked.ensures.looks.rest))
    c.requires.idle

pub returns-in-Err-clause-kept : goal.returns-in-Err-clause-kept
returns-in-Err-clause-kept g c =
    keeps_local (uses_of c.args.order.now) c.args.order.now.access c.args.store

pub returns-in-Err-clause-spare_kept : goal.returns-in-Err-clause-spare_kept
returns-in-Err-clause-spare_kept g c =
    keeps_local (uses_of c.args.order.now) c.args.order.now.access c.args.spare

pub returns-in-Err-clause-second_kept : goal.returns-in-Err-clause-second_kept
returns-in-Err-clause-second_kept g c =
    keeps_second (uses_of c.args.order.now) c.args.second

pub returns-in-Err-clause-shared_kept : goal.returns-in-Err-clause-shared_kept
returns-in-Err-clause-shared_kept g c =
    keeps_shared (uses_of c.args.order.now) c.args.shared

pub returns-in-Err-clause-sound : goal.returns-in-Err-clause-sound
returns-in-Err-clause-sound g c store spare second =
    alone_puts g.S.StoreDevice c.args.store (g.met.S.StoreDevice.only_now c.args.store) _

pub returns-in-Err-clause-spare_sound : goal.returns-in-Err-clause-spare_sound
returns-in-Err-clause-spare_sound g c store spare second =
    alone_puts g.P.StoreDevice c.args.spare (g.met.P.StoreDevice.only_now c.args.spare) _

pub returns-in-Err-clause-second_sound : goal.returns-in-Err-clause-second_sound
returns-in-Err-clause-second_sound g c store spare second =
    alone_puts g.R.StoreDevice c.args.second (g.met.R.StoreDevice.only_now c.args.second) _

pub returns-in-Err-clause-shared_sound : goal.returns-in-Err-clause-shared_sound
returns-in-Err-clause-shared_sound g c shared =
    λ sound image left. sound image (g.met.H.Shared.only_now c.args.shared image left)

pub returns-in-Err-clause-shared_adds : goal.returns-in-Err-clause-shared_adds
returns-in-Err-clause-shared_adds g c shared =
    alone_shared g.H.Shared c.args.shared (g.met.H.Shared.only_now c.args.shared) _ _

pub returns-in-Err-clause-other : goal.returns-in-Err-clause-other
returns-in-Err-clause-other g c store spare =
    reread_other g.S.StoreDevice g.P.StoreDevice c.args.store c.args.store c.args.spare c.args.spare
    (alone_reread g.S.StoreDevice c.args.store (g.met.S.StoreDevice.only_now c.args.store))
    (alone_reread g.P.StoreDevice c.args.spare (g.met.P.StoreDevice.only_now c.args.spare)) _

pub returns-in-Err-clause-left : goal.returns-in-Err-clause-left
returns-in-Err-clause-left g c told store spare second shared trusted =
    alone_pairs g.S.StoreDevice g.P.StoreDevice c.args.store c.args.spare _
    (g.met.S.StoreDevice.only_now c.args.store) (g.met.P.StoreDevice.only_now c.args.spare)
    (λ f e now also. inl (self_both _ _ f e now also))

pub returns-in-Err-clause-second_left : goal.returns-in-Err-clause-second_left
returns-in-Err-clause-second_left g c told store spare second shared trusted =
    unchanged g.R.StoreDevice.moment g.R.StoreDevice.images_since g.R.StoreDevice.images _
    c.args.second (g.met.R.StoreDevice.only_now c.args.second) (λ image now. inl (image, now, refl))

pub returns-in-Err-clause-shared_left : goal.returns-in-Err-clause-shared_left
returns-in-Err-clause-shared_left g c told store spare second shared trusted =
    unchanged g.H.Shared.moment g.H.Shared.images_since g.H.Shared.images _ c.args.shared
    (g.met.H.Shared.only_now c.args.shared) (λ image now. inl now)

pub returns-in-Err-clause-cause : goal.returns-in-Err-clause-cause
returns-in-Err-clause-cause g c =
    let before = (g.W.Tree.state c.args.world.now).faults in
    let after = (g.W.Tree.state c.asked.new.tree).faults in
    let start = (g.W.Spawner.runs c.args.world.now).faults in
    let stores = g.S.StoreDevice.store_faults c.args.store + g.P.StoreDevice.store_faults
    c.args.spare + g.R.StoreDevice.store_faults c.args.second + g.H.Shared.store_faults
    c.args.shared in
    let counts : Counts {T = Unit {0}} is_failed before after (raised c.in-Err.stop) = record
    { later = c.in-Err.ensures.cause.later; counted = c.in-Err.ensures.cause.counted } in
    cause_by (uses_of c.args.order.now) g.H.Device.StoreDevice.tells _ _ c.tell_stop.result
    (subst (λ begun. HasCauseIn (counts_of before stores start (g.K.Sink.faults c.args.out.now))
    (counts_of after stores begun (g.K.Sink.faults c.tell_stop.new.out)) c.tell_stop.result)
    (sym (ap (λ runs. runs.faults) (g.met.W.Spawner.runs_by_rest _ _ c.asked.ensures.looks.rest)))
    (c.tell_stop.ensures.cause before after stores start counts))
