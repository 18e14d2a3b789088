-- What words ask for, by their order.
use Rattle.std.proofs.Common.{◌∙◌, ◌+◌, ap, sym, subst, ℕ, Ok, refl}
use Rattle.std.proofs.Math.Logic.{⊎_elim}
use Rattle.store_dev.specs.Device.{LeavesOnly}
use Rattle.spawn_dev.specs.Spawn.{IsIdle}
use Rattle.cli_words.specs.Orders.{order_of}
use Rattle.cli_words.specs.declared.order.Order.TheVariants.{Run, Sample}
use Rattle.compact.specs.Current.{current_of}
use Rattle.answers.specs.Answers.{IfDone, IfRefused, HasCauseIn, counts_of}
use Rattle.answers.specs.Facts.{completes, if_refused, no_fault, run_completes}
use Rattle.second_runs.proofs.Reading.{alone_reread}
use Rattle.run_orders.specs.Moments.{at_moment, stores_at}
use Rattle.run_orders.specs.Uses.{uses_of}
use Rattle.turbo_app.specs.Asking.{IsRefusedOrder}
use Rattle.turbo_app.specs.Images.{AddsBy, AddsToSecond, AddsToSharedBy, IsSecondBy, IsSharedBy}
use Rattle.turbo_app.specs.Images.{IsTrustedBy, LastsBy, LastsSecondBy, LastsSharedBy, LeavesBy}
use Rattle.turbo_app.specs.Images.{RereadsBy}
use Rattle.turbo_app.specs.Outcomes.{DidOrder, KeepsSecond, KeepsShared, KeepsStore}
use Rattle.turbo_app.specs.Outcomes.{LeavesAsRefused, RefusedStores}
use Rattle.turbo_app.proofs.Alone.{alone_both, alone_by, alone_left, alone_other, alone_second}
use Rattle.turbo_app.proofs.Alone.{second_alone, shared_adds, shared_alone, shared_stays}
use Rattle.turbo_app.proofs.Alone.{refused_all, refused_told, refused_both, done_both, done_as}
use Rattle.turbo_app.proofs.Causing.{caused_alone, caused_run, cause_told, compact_cause}
use Rattle.turbo_app.proofs.Causing.{quiet_alone, quiet_run}
use Rattle.turbo_app.proofs.Compacting.{compact_left, kept_held}
use Rattle.turbo_app.proofs.top.turbo.Goals as goal

pub run_order-requires-clause-wide : goal.run_order-requires-clause-wide
run_order-requires-clause-wide g c = (c.width_law.ensures c.args.words.now (Run c.in-Ok-Run.order)
    (c.in-Ok-Run.ensures.order ∙ ap (λ o. Ok o) c.in-Ok-Run.field-0-is)).0

pub run_order-requires-clause-narrow : goal.run_order-requires-clause-narrow
run_order-requires-clause-narrow g c = (c.width_law.ensures c.args.words.now (Run c.in-Ok-Run.order)
    (c.in-Ok-Run.ensures.order ∙ ap (λ o. Ok o) c.in-Ok-Run.field-0-is)).1

pub run_order-requires-clause-access : goal.run_order-requires-clause-access
run_order-requires-clause-access g c = (c.width_law.ensures c.args.words.now (Run c.in-Ok-Run.order)
    (c.in-Ok-Run.ensures.order ∙ ap (λ o. Ok o) c.in-Ok-Run.field-0-is)).2

-- a sample has a size within the limits
pub sampled-requires : goal.sampled-requires
sampled-requires g c = c.width_law.ensures c.args.words.now (Sample c.in-Ok-Sample.size)
    (c.in-Ok-Sample.ensures.order ∙ ap (λ o. Ok o) c.in-Ok-Sample.field-0-is)

-- ---- causes

pub returns-in-Ok-Help-clause-cause : goal.returns-in-Ok-Help-clause-cause
returns-in-Ok-Help-clause-cause g c =
    caused_alone (order_of c.args.words.now) _ _ _ c.help.result
    (c.help.ensures.cause (g.W.Tree.state c.args.world.now).faults (g.S.StoreDevice.store_faults
    c.args.store + g.P.StoreDevice.store_faults c.args.spare + g.R.StoreDevice.store_faults
    c.args.second + g.H.Shared.store_faults c.args.shared)
    (g.W.Spawner.runs c.args.world.now).faults)

pub returns-in-Ok-Help-clause-quiet : goal.returns-in-Ok-Help-clause-quiet
returns-in-Ok-Help-clause-quiet g c quiet =
    no_fault _ _ c.help.result (c.help.ensures.cause (g.W.Tree.state c.args.world.now).faults
    (g.S.StoreDevice.store_faults c.args.store + g.P.StoreDevice.store_faults c.args.spare +
    g.R.StoreDevice.store_faults c.args.second + g.H.Shared.store_faults c.args.shared)
    (g.W.Spawner.runs c.args.world.now).faults) (quiet_alone (order_of c.args.words.now) _ _ _
    quiet)

pub returns-in-Ok-Sample-clause-cause : goal.returns-in-Ok-Sample-clause-cause
returns-in-Ok-Sample-clause-cause g c =
    caused_alone (order_of c.args.words.now) _ _ _ c.sampled.result
    (c.sampled.ensures.cause (g.W.Tree.state c.args.world.now).faults (g.S.StoreDevice.store_faults
    c.args.store + g.P.StoreDevice.store_faults c.args.spare + g.R.StoreDevice.store_faults
    c.args.second + g.H.Shared.store_faults c.args.shared)
    (g.W.Spawner.runs c.args.world.now).faults)

pub returns-in-Ok-Sample-clause-quiet : goal.returns-in-Ok-Sample-clause-quiet
returns-in-Ok-Sample-clause-quiet g c quiet =
    no_fault _ _ c.sampled.result (c.sampled.ensures.cause (g.W.Tree.state c.args.world.now).faults
    (g.S.StoreDevice.store_faults c.args.store + g.P.StoreDevice.store_faults c.args.spare +
    g.R.StoreDevice.store_faults c.args.second + g.H.Shared.store_faults c.args.shared)
    (g.W.Spawner.runs c.args.world.now).faults) (quiet_alone (order_of c.args.words.now) _ _ _
    quiet)

pub returns-in-Ok-Prune-clause-cause : goal.returns-in-Ok-Prune-clause-cause
returns-in-Ok-Prune-clause-cause g c =
    let stores = g.S.StoreDevice.store_faults c.args.store + g.P.StoreDevice.store_faults
    c.args.spare + g.R.StoreDevice.store_faults c.args.second + g.H.Shared.store_faults
    c.args.shared in
    let start = (g.W.Spawner.runs c.args.world.now).faults in
    let before = counts_of (g.W.Tree.state c.args.world.now).faults stores start
    (g.K.Sink.faults c.args.out.now) in
    let cause = subst (λ n. HasCauseIn before
    (counts_of (g.W.Tree.state c.prune_order.new.tree).faults stores n
    (g.K.Sink.faults c.prune_order.new.out)) c.prune_order.result)
    (sym (ap (λ r. r.faults) (g.met.W.Spawner.runs_by_rest _ _ c.prune_order.ensures.keeps.rest)))
    (c.prune_order.ensures.cause stores start) in
    caused_alone (order_of c.args.words.now) _ _ _ c.prune_order.result cause

pub returns-in-Ok-Prune-clause-quiet : goal.returns-in-Ok-Prune-clause-quiet
returns-in-Ok-Prune-clause-quiet g c quiet =
    let stores = g.S.StoreDevice.store_faults c.args.store + g.P.StoreDevice.store_faults
    c.args.spare + g.R.StoreDevice.store_faults c.args.second + g.H.Shared.store_faults
    c.args.shared in
    let start = (g.W.Spawner.runs c.args.world.now).faults in
    let before = counts_of (g.W.Tree.state c.args.world.now).faults stores start
    (g.K.Sink.faults c.args.out.now) in
    let cause = subst (λ n. HasCauseIn before
    (counts_of (g.W.Tree.state c.prune_order.new.tree).faults stores n
    (g.K.Sink.faults c.prune_order.new.out)) c.prune_order.result)
    (sym (ap (λ r. r.faults) (g.met.W.Spawner.runs_by_rest _ _ c.prune_order.ensures.keeps.rest)))
    (c.prune_order.ensures.cause stores start) in
    no_fault _ _ c.prune_order.result cause (quiet_alone (order_of c.args.words.now) _ _ _ quiet)

pub returns-in-Err-clause-cause : goal.returns-in-Err-clause-cause
returns-in-Err-clause-cause g c =
    caused_alone (order_of c.args.words.now) _ _ _ c.refuse_words.result
    (c.refuse_words.ensures.cause (g.W.Tree.state c.args.world.now).faults
    (g.S.StoreDevice.store_faults c.args.store + g.P.StoreDevice.store_faults c.args.spare +
    g.R.StoreDevice.store_faults c.args.second + g.H.Shared.store_faults c.args.shared)
    (g.W.Spawner.runs c.args.world.now).faults)

pub returns-in-Err-clause-quiet : goal.returns-in-Err-clause-quiet
returns-in-Err-clause-quiet g c quiet =
    no_fault _ _ c.refuse_words.result (c.refuse_words.ensures.cause
    (g.W.Tree.state c.args.world.now).faults (g.S.StoreDevice.store_faults c.args.store +
    g.P.StoreDevice.store_faults c.args.spare + g.R.StoreDevice.store_faults c.args.second +
    g.H.Shared.store_faults c.args.shared) (g.W.Spawner.runs c.args.world.now).faults)
    (quiet_alone (order_of c.args.words.now) _ _ _ quiet)

pub returns-in-Ok-Compact-clause-cause : goal.returns-in-Ok-Compact-clause-cause
returns-in-Ok-Compact-clause-cause g c =
    let cause = compact_cause _ _ _ _ _ _ _ _ (g.R.StoreDevice.store_faults c.args.second)
    (g.H.Shared.store_faults c.args.shared) c.compact_order-answer.result.0
    (c.compact_order-answer.ensures.cause (g.W.Tree.state c.args.world.now).faults
    (g.W.Spawner.runs c.args.world.now).faults) in
    caused_alone (order_of c.args.words.now) _ _ _ c.compact_order-answer.result.0 cause

pub returns-in-Ok-Compact-clause-quiet : goal.returns-in-Ok-Compact-clause-quiet
returns-in-Ok-Compact-clause-quiet g c quiet =
    let cause = compact_cause _ _ _ _ _ _ _ _ (g.R.StoreDevice.store_faults c.args.second)
    (g.H.Shared.store_faults c.args.shared) c.compact_order-answer.result.0
    (c.compact_order-answer.ensures.cause (g.W.Tree.state c.args.world.now).faults
    (g.W.Spawner.runs c.args.world.now).faults) in
    no_fault _ _ c.compact_order-answer.result.0 cause (quiet_alone (order_of c.args.words.now) _ _
    _ quiet)

pub returns-in-Ok-Run-clause-cause : goal.returns-in-Ok-Run-clause-cause
returns-in-Ok-Run-clause-cause g c =
    caused_run _ c.in-Ok-Run.order _ _ _ c.run_order.result.0 (c.in-Ok-Run.ensures.order ∙ ap
    (λ o. Ok o) c.in-Ok-Run.field-0-is) c.run_order.ensures.cause

pub returns-in-Ok-Run-clause-quiet : goal.returns-in-Ok-Run-clause-quiet
returns-in-Ok-Run-clause-quiet g c quiet =
    quiet_run _ c.in-Ok-Run.order _ _ _ c.run_order.result.0 (c.in-Ok-Run.ensures.order ∙ ap
    (λ o. Ok o) c.in-Ok-Run.field-0-is) c.run_order.ensures.cause quiet

pub returns-in-Ok-Prune-clause-idle : goal.returns-in-Ok-Prune-clause-idle
returns-in-Ok-Prune-clause-idle g c = subst (λ r. IsIdle r)
    (sym (g.met.W.Spawner.runs_by_rest _ _ c.prune_order.ensures.keeps.rest)) c.requires.idle

-- ---- one reason

pub returns-in-Ok-Run-clause-only : goal.returns-in-Ok-Run-clause-only
returns-in-Ok-Run-clause-only g c told store spare second shared reason refused =
    let files = (g.W.Tree.state c.args.world.now).files in
    let stores = stores_at g.S.StoreDevice.content g.P.StoreDevice.content g.R.StoreDevice.content
    g.H.Shared.content g.H.Shared.coming c.args.store c.args.spare c.args.second c.args.shared in
    let order = c.in-Ok-Run.ensures.order ∙ ap (λ o. Ok o) c.in-Ok-Run.field-0-is in
    c.run_order.ensures.only told store spare second shared reason
    (subst (λ o. IsRefusedOrder o c.args.env.now files stores reason) order refused)

pub returns-in-Ok-Compact-clause-only : goal.returns-in-Ok-Compact-clause-only
returns-in-Ok-Compact-clause-only g c told store spare second shared reason refused =
    let files = (g.W.Tree.state c.args.world.now).files in
    let stores = stores_at g.S.StoreDevice.content g.P.StoreDevice.content g.R.StoreDevice.content
    g.H.Shared.content g.H.Shared.coming c.args.store c.args.spare c.args.second c.args.shared in
    let order = c.in-Ok-Compact.ensures.order ∙ ap (λ o. Ok o) c.in-Ok-Compact.field-0-is in
    c.compact_order-answer.ensures.only store spare reason
    (subst (λ o. IsRefusedOrder o c.args.env.now files stores reason) order refused)

-- ---- what a crash leaves of one device

pub returns-in-Ok-Help-clause-adds : goal.returns-in-Ok-Help-clause-adds
returns-in-Ok-Help-clause-adds g c store spare second =
    alone_by g.S.StoreDevice c.args.store (g.met.S.StoreDevice.only_now c.args.store) _

pub returns-in-Ok-Help-clause-spare_adds : goal.returns-in-Ok-Help-clause-spare_adds
returns-in-Ok-Help-clause-spare_adds g c store spare second =
    alone_by g.P.StoreDevice c.args.spare (g.met.P.StoreDevice.only_now c.args.spare) _

pub returns-in-Ok-Sample-clause-adds : goal.returns-in-Ok-Sample-clause-adds
returns-in-Ok-Sample-clause-adds g c store spare second =
    alone_by g.S.StoreDevice c.args.store (g.met.S.StoreDevice.only_now c.args.store) _

pub returns-in-Ok-Sample-clause-spare_adds : goal.returns-in-Ok-Sample-clause-spare_adds
returns-in-Ok-Sample-clause-spare_adds g c store spare second =
    alone_by g.P.StoreDevice c.args.spare (g.met.P.StoreDevice.only_now c.args.spare) _

pub returns-in-Ok-Prune-clause-adds : goal.returns-in-Ok-Prune-clause-adds
returns-in-Ok-Prune-clause-adds g c store spare second =
    alone_by g.S.StoreDevice c.args.store (g.met.S.StoreDevice.only_now c.args.store) _

pub returns-in-Ok-Prune-clause-spare_adds : goal.returns-in-Ok-Prune-clause-spare_adds
returns-in-Ok-Prune-clause-spare_adds g c store spare second =
    alone_by g.P.StoreDevice c.args.spare (g.met.P.StoreDevice.only_now c.args.spare) _

pub returns-in-Err-clause-adds : goal.returns-in-Err-clause-adds
returns-in-Err-clause-adds g c store spare second =
    alone_by g.S.StoreDevice c.args.store (g.met.S.StoreDevice.only_now c.args.store) _

pub returns-in-Err-clause-spare_adds : goal.returns-in-Err-clause-spare_adds
returns-in-Err-clause-spare_adds g c store spare second =
    alone_by g.P.StoreDevice c.args.spare (g.met.P.StoreDevice.only_now c.args.spare) _

pub returns-in-Ok-Help-clause-second_adds : goal.returns-in-Ok-Help-clause-second_adds
returns-in-Ok-Help-clause-second_adds g c store spare second =
    alone_second g.R.StoreDevice c.args.second (g.met.R.StoreDevice.only_now c.args.second) _

pub returns-in-Ok-Help-clause-shared_sound : goal.returns-in-Ok-Help-clause-shared_sound
returns-in-Ok-Help-clause-shared_sound g c told =
    shared_stays g.H.Shared c.args.shared (g.met.H.Shared.only_now c.args.shared)

pub returns-in-Ok-Help-clause-shared_adds : goal.returns-in-Ok-Help-clause-shared_adds
returns-in-Ok-Help-clause-shared_adds g c told =
    shared_adds g.H.Shared c.args.shared (g.met.H.Shared.only_now c.args.shared) _ _

pub returns-in-Ok-Sample-clause-second_adds : goal.returns-in-Ok-Sample-clause-second_adds
returns-in-Ok-Sample-clause-second_adds g c store spare second =
    alone_second g.R.StoreDevice c.args.second (g.met.R.StoreDevice.only_now c.args.second) _

pub returns-in-Ok-Sample-clause-shared_sound : goal.returns-in-Ok-Sample-clause-shared_sound
returns-in-Ok-Sample-clause-shared_sound g c told =
    shared_stays g.H.Shared c.args.shared (g.met.H.Shared.only_now c.args.shared)

pub returns-in-Ok-Sample-clause-shared_adds : goal.returns-in-Ok-Sample-clause-shared_adds
returns-in-Ok-Sample-clause-shared_adds g c told =
    shared_adds g.H.Shared c.args.shared (g.met.H.Shared.only_now c.args.shared) _ _

pub returns-in-Ok-Prune-clause-second_adds : goal.returns-in-Ok-Prune-clause-second_adds
returns-in-Ok-Prune-clause-second_adds g c store spare second =
    alone_second g.R.StoreDevice c.args.second (g.met.R.StoreDevice.only_now c.args.second) _

pub returns-in-Ok-Prune-clause-shared_sound : goal.returns-in-Ok-Prune-clause-shared_sound
returns-in-Ok-Prune-clause-shared_sound g c told =
    shared_stays g.H.Shared c.args.shared (g.met.H.Shared.only_now c.args.shared)

pub returns-in-Ok-Prune-clause-shared_adds : goal.returns-in-Ok-Prune-clause-shared_adds
returns-in-Ok-Prune-clause-shared_adds g c told =
    shared_adds g.H.Shared c.args.shared (g.met.H.Shared.only_now c.args.shared) _ _

pub returns-in-Err-clause-second_adds : goal.returns-in-Err-clause-second_adds
returns-in-Err-clause-second_adds g c store spare second =
    alone_second g.R.StoreDevice c.args.second (g.met.R.StoreDevice.only_now c.args.second) _

pub returns-in-Err-clause-shared_sound : goal.returns-in-Err-clause-shared_sound
returns-in-Err-clause-shared_sound g c told =
    shared_stays g.H.Shared c.args.shared (g.met.H.Shared.only_now c.args.shared)

pub returns-in-Err-clause-shared_adds : goal.returns-in-Err-clause-shared_adds
returns-in-Err-clause-shared_adds g c told =
    shared_adds g.H.Shared c.args.shared (g.met.H.Shared.only_now c.args.shared) _ _

pub returns-in-Ok-Compact-clause-second_adds : goal.returns-in-Ok-Compact-clause-second_adds
returns-in-Ok-Compact-clause-second_adds g c store spare second =
    alone_second g.R.StoreDevice c.args.second (g.met.R.StoreDevice.only_now c.args.second) _

pub returns-in-Ok-Compact-clause-shared_sound : goal.returns-in-Ok-Compact-clause-shared_sound
returns-in-Ok-Compact-clause-shared_sound g c told =
    shared_stays g.H.Shared c.args.shared (g.met.H.Shared.only_now c.args.shared)

pub returns-in-Ok-Compact-clause-shared_adds : goal.returns-in-Ok-Compact-clause-shared_adds
returns-in-Ok-Compact-clause-shared_adds g c told =
    shared_adds g.H.Shared c.args.shared (g.met.H.Shared.only_now c.args.shared) _ _

pub returns-in-Ok-Run-clause-adds : goal.returns-in-Ok-Run-clause-adds
returns-in-Ok-Run-clause-adds g c store spare second =
    let s = g.S.StoreDevice in
    subst (λ o. LeavesOnly s.moment s.images_since c.args.store c.run_order.result.1
    (AddsBy o (s.images c.args.store)))
    (sym (c.in-Ok-Run.ensures.order ∙ ap (λ o. Ok o) c.in-Ok-Run.field-0-is))
    (c.run_order.ensures.sound store spare second)

pub returns-in-Ok-Run-clause-spare_adds : goal.returns-in-Ok-Run-clause-spare_adds
returns-in-Ok-Run-clause-spare_adds g c store spare second =
    let s = g.P.StoreDevice in
    subst (λ o. LeavesOnly s.moment s.images_since c.args.spare c.run_order.result.2
    (AddsBy o (s.images c.args.spare)))
    (sym (c.in-Ok-Run.ensures.order ∙ ap (λ o. Ok o) c.in-Ok-Run.field-0-is))
    (c.run_order.ensures.spare_sound store spare second)

pub returns-in-Ok-Run-clause-second_adds : goal.returns-in-Ok-Run-clause-second_adds
returns-in-Ok-Run-clause-second_adds g c store spare second =
    let s = g.R.StoreDevice in
    subst (λ o. LeavesOnly s.moment s.images_since c.args.second c.run_order.result.3
    (AddsToSecond o (s.images c.args.second)))
    (sym (c.in-Ok-Run.ensures.order ∙ ap (λ o. Ok o) c.in-Ok-Run.field-0-is))
    (c.run_order.ensures.second_sound store spare second)

pub returns-in-Ok-Run-clause-shared_adds : goal.returns-in-Ok-Run-clause-shared_adds
returns-in-Ok-Run-clause-shared_adds g c shared =
    let h = g.H.Shared in
    let old = at_moment g.W.Tree.state g.W.Spawner.runs g.S.StoreDevice.content
    g.P.StoreDevice.content g.R.StoreDevice.content h.content h.coming g.K.Sink.written
    c.args.world.now c.args.store c.args.spare c.args.second c.args.shared c.args.out.now in
    let order = c.in-Ok-Run.ensures.order ∙ ap (λ o. Ok o) c.in-Ok-Run.field-0-is in
    subst (λ o. LeavesOnly h.moment h.images_since c.args.shared c.run_order.result.4
    (AddsToSharedBy h c.args.shared o old)) (sym order) (c.run_order.ensures.shared_adds shared)

pub returns-in-Ok-Compact-clause-adds : goal.returns-in-Ok-Compact-clause-adds
returns-in-Ok-Compact-clause-adds g c store spare second =
    let s = g.S.StoreDevice in
    subst (λ o. LeavesOnly s.moment s.images_since c.args.store c.compact_order-answer.result.1
    (AddsBy o (s.images c.args.store)))
    (sym (c.in-Ok-Compact.ensures.order ∙ ap (λ o. Ok o) c.in-Ok-Compact.field-0-is))
    (c.compact_order-answer.ensures.sound store spare)

pub returns-in-Ok-Compact-clause-spare_adds : goal.returns-in-Ok-Compact-clause-spare_adds
returns-in-Ok-Compact-clause-spare_adds g c store spare second =
    let s = g.P.StoreDevice in
    subst (λ o. LeavesOnly s.moment s.images_since c.args.spare c.compact_order-answer.result.2
    (AddsBy o (s.images c.args.spare)))
    (sym (c.in-Ok-Compact.ensures.order ∙ ap (λ o. Ok o) c.in-Ok-Compact.field-0-is))
    (c.compact_order-answer.ensures.spare_sound store spare)

-- ---- what it leaves of both

pub returns-in-Ok-Help-clause-left : goal.returns-in-Ok-Help-clause-left
returns-in-Ok-Help-clause-left g c told store spare second shared trusted =
    alone_left g.S.StoreDevice g.P.StoreDevice c.args.store c.args.spare
    (g.met.S.StoreDevice.only_now c.args.store) (g.met.P.StoreDevice.only_now c.args.spare) _ _ _ _
    _

pub returns-in-Ok-Sample-clause-left : goal.returns-in-Ok-Sample-clause-left
returns-in-Ok-Sample-clause-left g c told store spare second shared trusted =
    alone_left g.S.StoreDevice g.P.StoreDevice c.args.store c.args.spare
    (g.met.S.StoreDevice.only_now c.args.store) (g.met.P.StoreDevice.only_now c.args.spare) _ _ _ _
    _

pub returns-in-Ok-Prune-clause-left : goal.returns-in-Ok-Prune-clause-left
returns-in-Ok-Prune-clause-left g c told store spare second shared trusted =
    alone_left g.S.StoreDevice g.P.StoreDevice c.args.store c.args.spare
    (g.met.S.StoreDevice.only_now c.args.store) (g.met.P.StoreDevice.only_now c.args.spare) _ _ _ _
    _

pub returns-in-Err-clause-left : goal.returns-in-Err-clause-left
returns-in-Err-clause-left g c told store spare second shared trusted =
    alone_left g.S.StoreDevice g.P.StoreDevice c.args.store c.args.spare
    (g.met.S.StoreDevice.only_now c.args.store) (g.met.P.StoreDevice.only_now c.args.spare) _ _ _ _
    _

pub returns-in-Ok-Help-clause-second_left : goal.returns-in-Ok-Help-clause-second_left
returns-in-Ok-Help-clause-second_left g c told store spare second shared trusted =
    second_alone g.R.StoreDevice c.args.second (g.met.R.StoreDevice.only_now c.args.second) _ _ _ _
    _

pub returns-in-Ok-Help-clause-shared_left : goal.returns-in-Ok-Help-clause-shared_left
returns-in-Ok-Help-clause-shared_left g c told store spare second shared trusted =
    shared_alone g.H.Shared c.args.shared (g.met.H.Shared.only_now c.args.shared) _ _ _ _ _

pub returns-in-Ok-Sample-clause-second_left : goal.returns-in-Ok-Sample-clause-second_left
returns-in-Ok-Sample-clause-second_left g c told store spare second shared trusted =
    second_alone g.R.StoreDevice c.args.second (g.met.R.StoreDevice.only_now c.args.second) _ _ _ _
    _

pub returns-in-Ok-Sample-clause-shared_left : goal.returns-in-Ok-Sample-clause-shared_left
returns-in-Ok-Sample-clause-shared_left g c told store spare second shared trusted =
    shared_alone g.H.Shared c.args.shared (g.met.H.Shared.only_now c.args.shared) _ _ _ _ _

pub returns-in-Ok-Prune-clause-second_left : goal.returns-in-Ok-Prune-clause-second_left
returns-in-Ok-Prune-clause-second_left g c told store spare second shared trusted =
    second_alone g.R.StoreDevice c.args.second (g.met.R.StoreDevice.only_now c.args.second) _ _ _ _
    _

pub returns-in-Ok-Prune-clause-shared_left : goal.returns-in-Ok-Prune-clause-shared_left
returns-in-Ok-Prune-clause-shared_left g c told store spare second shared trusted =
    shared_alone g.H.Shared c.args.shared (g.met.H.Shared.only_now c.args.shared) _ _ _ _ _

pub returns-in-Err-clause-second_left : goal.returns-in-Err-clause-second_left
returns-in-Err-clause-second_left g c told store spare second shared trusted =
    second_alone g.R.StoreDevice c.args.second (g.met.R.StoreDevice.only_now c.args.second) _ _ _ _
    _

pub returns-in-Err-clause-shared_left : goal.returns-in-Err-clause-shared_left
returns-in-Err-clause-shared_left g c told store spare second shared trusted =
    shared_alone g.H.Shared c.args.shared (g.met.H.Shared.only_now c.args.shared) _ _ _ _ _

pub returns-in-Ok-Compact-clause-second_left : goal.returns-in-Ok-Compact-clause-second_left
returns-in-Ok-Compact-clause-second_left g c told store spare second shared trusted =
    second_alone g.R.StoreDevice c.args.second (g.met.R.StoreDevice.only_now c.args.second) _ _ _ _
    _

pub returns-in-Ok-Compact-clause-shared_left : goal.returns-in-Ok-Compact-clause-shared_left
returns-in-Ok-Compact-clause-shared_left g c told store spare second shared trusted =
    shared_alone g.H.Shared c.args.shared (g.met.H.Shared.only_now c.args.shared) _ _ _ _ _

pub returns-in-Ok-Run-clause-left : goal.returns-in-Ok-Run-clause-left
returns-in-Ok-Run-clause-left g c told store spare second shared trusted =
    let s = g.S.StoreDevice in
    let p = g.P.StoreDevice in
    let runs = g.W.Spawner.runs c.args.world.now in
    let book = g.W.Spawner.effect runs.book in
    let old = at_moment g.W.Tree.state g.W.Spawner.runs g.S.StoreDevice.content
    g.P.StoreDevice.content g.R.StoreDevice.content g.H.Shared.content g.H.Shared.coming
    g.K.Sink.written c.args.world.now c.args.store c.args.spare c.args.second c.args.shared
    c.args.out.now in
    let order = c.in-Ok-Run.ensures.order ∙ ap (λ o. Ok o) c.in-Ok-Run.field-0-is in
    let steps = (g.W.Spawner.runs c.run_order.new.world).steps in
    subst (λ o. LeavesBy s p o book c.args.env.now old steps c.args.store c.run_order.result.1
    c.args.spare c.run_order.result.2) (sym order)
    (c.run_order.ensures.left told store spare second shared
    (subst (λ o. IsTrustedBy o book c.args.env.now old) order trusted))

pub returns-in-Ok-Run-clause-second_left : goal.returns-in-Ok-Run-clause-second_left
returns-in-Ok-Run-clause-second_left g c told store spare second shared trusted =
    let r = g.R.StoreDevice in
    let runs = g.W.Spawner.runs c.args.world.now in
    let book = g.W.Spawner.effect runs.book in
    let old = at_moment g.W.Tree.state g.W.Spawner.runs g.S.StoreDevice.content
    g.P.StoreDevice.content g.R.StoreDevice.content g.H.Shared.content g.H.Shared.coming
    g.K.Sink.written c.args.world.now c.args.store c.args.spare c.args.second c.args.shared
    c.args.out.now in
    let order = c.in-Ok-Run.ensures.order ∙ ap (λ o. Ok o) c.in-Ok-Run.field-0-is in
    let steps = (g.W.Spawner.runs c.run_order.new.world).steps in
    subst (λ o. LeavesOnly r.moment r.images_since c.args.second c.run_order.result.3
    (IsSecondBy o book c.args.env.now old steps (r.images c.args.second))) (sym order)
    (c.run_order.ensures.second_left told store spare second shared
    (subst (λ o. IsTrustedBy o book c.args.env.now old) order trusted))

pub returns-in-Ok-Run-clause-shared_left : goal.returns-in-Ok-Run-clause-shared_left
returns-in-Ok-Run-clause-shared_left g c told store spare second shared trusted =
    let h = g.H.Shared in
    let runs = g.W.Spawner.runs c.args.world.now in
    let book = g.W.Spawner.effect runs.book in
    let old = at_moment g.W.Tree.state g.W.Spawner.runs g.S.StoreDevice.content
    g.P.StoreDevice.content g.R.StoreDevice.content g.H.Shared.content g.H.Shared.coming
    g.K.Sink.written c.args.world.now c.args.store c.args.spare c.args.second c.args.shared
    c.args.out.now in
    let new = at_moment g.W.Tree.state g.W.Spawner.runs g.S.StoreDevice.content
    g.P.StoreDevice.content g.R.StoreDevice.content g.H.Shared.content g.H.Shared.coming
    g.K.Sink.written c.run_order.new.world c.run_order.result.1 c.run_order.result.2
    c.run_order.result.3 c.run_order.result.4 c.run_order.new.out in
    let order = c.in-Ok-Run.ensures.order ∙ ap (λ o. Ok o) c.in-Ok-Run.field-0-is in
    subst (λ o. LeavesOnly h.moment h.images_since c.args.shared c.run_order.result.4
    (IsSharedBy h c.args.shared o book c.args.env.now old new)) (sym order)
    (c.run_order.ensures.shared_left told store spare second shared
    (subst (λ o. IsTrustedBy o book c.args.env.now old) order trusted))

pub returns-in-Ok-Compact-clause-left : goal.returns-in-Ok-Compact-clause-left
returns-in-Ok-Compact-clause-left g c told store spare second shared trusted =
    let s = g.S.StoreDevice in
    let p = g.P.StoreDevice in
    let new = c.compact_order-answer.result.1 in
    let then = c.compact_order-answer.result.2 in
    let runs = g.W.Spawner.runs c.args.world.now in
    let book = g.W.Spawner.effect runs.book in
    let old = at_moment g.W.Tree.state g.W.Spawner.runs g.S.StoreDevice.content
    g.P.StoreDevice.content g.R.StoreDevice.content g.H.Shared.content g.H.Shared.coming
    g.K.Sink.written c.args.world.now c.args.store c.args.spare c.args.second c.args.shared
    c.args.out.now in
    let order = c.in-Ok-Compact.ensures.order ∙ ap (λ o. Ok o) c.in-Ok-Compact.field-0-is in
    subst (λ o. LeavesBy s p o book c.args.env.now old runs.steps c.args.store new c.args.spare
    then) (sym order)
    (compact_left s p c.in-Ok-Compact.keep c.args.store new c.args.spare then
    (g.met.S.StoreDevice.as_it_reads c.args.store store) (g.met.P.StoreDevice.as_it_reads
    c.args.spare spare)
    (g.met.S.StoreDevice.only_now new) (g.met.P.StoreDevice.only_now then)
    (λ image now. g.met.S.StoreDevice.counts_now new (s.moment c.args.store) image
    (c.compact_order-answer.ensures.sound store spare).later now)
    (λ image now. g.met.P.StoreDevice.counts_now then (p.moment c.args.spare) image
    (c.compact_order-answer.ensures.spare_sound store spare).later now)
    (c.compact_order-answer.ensures.moments store spare))

-- ---- the store that was not current

pub returns-in-Ok-Help-clause-other : goal.returns-in-Ok-Help-clause-other
returns-in-Ok-Help-clause-other g c store spare =
    alone_other g.S.StoreDevice g.P.StoreDevice c.args.store c.args.spare
    (g.met.S.StoreDevice.only_now c.args.store) (g.met.P.StoreDevice.only_now c.args.spare) _ _

pub returns-in-Ok-Sample-clause-other : goal.returns-in-Ok-Sample-clause-other
returns-in-Ok-Sample-clause-other g c store spare =
    alone_other g.S.StoreDevice g.P.StoreDevice c.args.store c.args.spare
    (g.met.S.StoreDevice.only_now c.args.store) (g.met.P.StoreDevice.only_now c.args.spare) _ _

pub returns-in-Ok-Prune-clause-other : goal.returns-in-Ok-Prune-clause-other
returns-in-Ok-Prune-clause-other g c store spare =
    alone_other g.S.StoreDevice g.P.StoreDevice c.args.store c.args.spare
    (g.met.S.StoreDevice.only_now c.args.store) (g.met.P.StoreDevice.only_now c.args.spare) _ _

pub returns-in-Err-clause-other : goal.returns-in-Err-clause-other
returns-in-Err-clause-other g c store spare =
    alone_other g.S.StoreDevice g.P.StoreDevice c.args.store c.args.spare
    (g.met.S.StoreDevice.only_now c.args.store) (g.met.P.StoreDevice.only_now c.args.spare) _ _

pub returns-in-Ok-Run-clause-other : goal.returns-in-Ok-Run-clause-other
returns-in-Ok-Run-clause-other g c store spare =
    let s = g.S.StoreDevice in
    let p = g.P.StoreDevice in
    let side = current_of (s.content c.args.store) (p.content c.args.spare) in
    subst (λ o. RereadsBy s p o side c.args.store c.run_order.result.1 c.args.spare
    c.run_order.result.2) (sym (c.in-Ok-Run.ensures.order ∙ ap (λ o. Ok o) c.in-Ok-Run.field-0-is))
    (c.run_order.ensures.other store spare)

pub returns-in-Ok-Compact-clause-other : goal.returns-in-Ok-Compact-clause-other
returns-in-Ok-Compact-clause-other g c store spare =
    let s = g.S.StoreDevice in
    let p = g.P.StoreDevice in
    let side = current_of (s.content c.args.store) (p.content c.args.spare) in
    subst (λ o. RereadsBy s p o side c.args.store c.compact_order-answer.result.1 c.args.spare
    c.compact_order-answer.result.2)
    (sym (c.in-Ok-Compact.ensures.order ∙ ap (λ o. Ok o) c.in-Ok-Compact.field-0-is)) tt

-- ---- what came to its end

pub returns-in-Ok-Compact-clause-did : goal.returns-in-Ok-Compact-clause-did
returns-in-Ok-Compact-clause-did g c told store spare second shared =
    let s = g.S.StoreDevice in
    let p = g.P.StoreDevice in
    let new = c.compact_order-answer.result.1 in
    let then = c.compact_order-answer.result.2 in
    let runs = g.W.Spawner.runs c.args.world.now in
    let book = g.W.Spawner.effect runs.book in
    let a = s.content c.args.store in
    let b = p.content c.args.spare in
    let old = at_moment g.W.Tree.state g.W.Spawner.runs g.S.StoreDevice.content
    g.P.StoreDevice.content g.R.StoreDevice.content g.H.Shared.content g.H.Shared.coming
    g.K.Sink.written c.args.world.now c.args.store c.args.spare c.args.second c.args.shared
    c.args.out.now in
    let left = at_moment g.W.Tree.state g.W.Spawner.runs g.S.StoreDevice.content
    g.P.StoreDevice.content g.R.StoreDevice.content g.H.Shared.content g.H.Shared.coming
    g.K.Sink.written c.args.world.now new then c.args.second c.args.shared
    c.compact_order-answer.new.out in
    subst (λ o. IfDone c.compact_order-answer.result.0 (DidOrder o book c.args.env.now
    g.K.Sink.tells old left))
    (sym (c.in-Ok-Compact.ensures.order ∙ ap (λ o. Ok o) c.in-Ok-Compact.field-0-is))
    (done_both c.compact_order-answer.result.0 _ _ _
    (λ status did lasts. record {
      files = refl;
      steps = refl;
      pairs = kept_held s p c.in-Ok-Compact.keep a b new then (g.met.S.StoreDevice.as_it_reads new
          store) (g.met.P.StoreDevice.as_it_reads then spare) lasts;
      made = did;
    })
    (c.compact_order-answer.ensures.did store spare) (c.compact_order-answer.ensures.lasts store
    spare))

pub returns-in-Ok-Compact-clause-lasts : goal.returns-in-Ok-Compact-clause-lasts
returns-in-Ok-Compact-clause-lasts g c store spare =
    let s = g.S.StoreDevice in
    let new = c.compact_order-answer.result.1 in
    subst (λ o. IfDone c.compact_order-answer.result.0 (λ _. LastsBy o (s.content new)
    (s.images new))) (sym (c.in-Ok-Compact.ensures.order ∙ ap (λ o. Ok o)
    c.in-Ok-Compact.field-0-is))
    (done_as c.compact_order-answer.result.0 _ _ (λ status lasts. lasts.store_rests.alone)
    (c.compact_order-answer.ensures.lasts store spare))

pub returns-in-Ok-Compact-clause-spare_lasts : goal.returns-in-Ok-Compact-clause-spare_lasts
returns-in-Ok-Compact-clause-spare_lasts g c store spare =
    let s = g.P.StoreDevice in
    let new = c.compact_order-answer.result.2 in
    subst (λ o. IfDone c.compact_order-answer.result.0 (λ _. LastsBy o (s.content new)
    (s.images new))) (sym (c.in-Ok-Compact.ensures.order ∙ ap (λ o. Ok o)
    c.in-Ok-Compact.field-0-is))
    (done_as c.compact_order-answer.result.0 _ _ (λ status lasts. lasts.spare_rests.alone)
    (c.compact_order-answer.ensures.lasts store spare))

pub returns-in-Ok-Run-clause-lasts : goal.returns-in-Ok-Run-clause-lasts
returns-in-Ok-Run-clause-lasts g c store spare =
    let s = g.S.StoreDevice in
    let new = c.run_order.result.1 in
    subst (λ o. IfDone c.run_order.result.0 (λ _. LastsBy o (s.content new) (s.images new)))
    (sym (c.in-Ok-Run.ensures.order ∙ ap (λ o. Ok o) c.in-Ok-Run.field-0-is))
    (c.run_order.ensures.lasts store)

pub returns-in-Ok-Run-clause-spare_lasts : goal.returns-in-Ok-Run-clause-spare_lasts
returns-in-Ok-Run-clause-spare_lasts g c store spare =
    let s = g.P.StoreDevice in
    let new = c.run_order.result.2 in
    subst (λ o. IfDone c.run_order.result.0 (λ _. LastsBy o (s.content new) (s.images new)))
    (sym (c.in-Ok-Run.ensures.order ∙ ap (λ o. Ok o) c.in-Ok-Run.field-0-is))
    (c.run_order.ensures.spare_lasts spare)

pub returns-in-Ok-Run-clause-second_lasts : goal.returns-in-Ok-Run-clause-second_lasts
returns-in-Ok-Run-clause-second_lasts g c second =
    let s = g.R.StoreDevice in
    let new = c.run_order.result.3 in
    subst (λ o. IfDone c.run_order.result.0 (λ _. LastsSecondBy o (s.content new) (s.images new)))
    (sym (c.in-Ok-Run.ensures.order ∙ ap (λ o. Ok o) c.in-Ok-Run.field-0-is))
    (c.run_order.ensures.second_lasts second)

pub returns-in-Ok-Run-clause-shared_lasts : goal.returns-in-Ok-Run-clause-shared_lasts
returns-in-Ok-Run-clause-shared_lasts g c shared =
    let s = g.H.Shared in
    let new = c.run_order.result.4 in
    subst (λ o. IfDone c.run_order.result.0 (λ _. LastsSharedBy o (s.content new) (s.images new)))
    (sym (c.in-Ok-Run.ensures.order ∙ ap (λ o. Ok o) c.in-Ok-Run.field-0-is))
    (c.run_order.ensures.shared_lasts shared)

-- ---- what was refused

pub returns-in-Ok-Prune-clause-untouched : goal.returns-in-Ok-Prune-clause-untouched
returns-in-Ok-Prune-clause-untouched g c =
    let old = (g.W.Tree.state c.args.world.now).files in
    let new = (g.W.Tree.state c.prune_order.new.tree).files in
    subst (λ o. IfRefused c.prune_order.result (LeavesAsRefused g.W.Tree.tells o old new))
    (sym (c.in-Ok-Prune.ensures.order ∙ ap (λ o. Ok o) c.in-Ok-Prune.field-0-is))
    (refused_told g.W.Tree.tells c.prune_order.result _ c.prune_order.ensures.untouched)

pub returns-in-Ok-Help-clause-after_refusal : goal.returns-in-Ok-Help-clause-after_refusal
returns-in-Ok-Help-clause-after_refusal g c store spare =
    if_refused c.help.result _ _ (λ reason none. absurd none) c.help.ensures.not_refused

pub returns-in-Ok-Sample-clause-after_refusal : goal.returns-in-Ok-Sample-clause-after_refusal
returns-in-Ok-Sample-clause-after_refusal g c store spare =
    if_refused c.sampled.result _ _ (λ reason none. absurd none) c.sampled.ensures.not_refused

pub returns-in-Ok-Prune-clause-after_refusal : goal.returns-in-Ok-Prune-clause-after_refusal
returns-in-Ok-Prune-clause-after_refusal g c store spare =
    let s = g.S.StoreDevice in
    let p = g.P.StoreDevice in
    subst (λ o. IfRefused c.prune_order.result (RefusedStores s p o c.args.store c.args.store
    c.args.spare c.args.spare))
    (sym (c.in-Ok-Prune.ensures.order ∙ ap (λ o. Ok o) c.in-Ok-Prune.field-0-is))
    (refused_all c.prune_order.result _
    (λ reason. alone_both s p c.args.store c.args.spare (g.met.S.StoreDevice.only_now c.args.store)
    (g.met.P.StoreDevice.only_now c.args.spare)))

pub returns-in-Ok-Run-clause-after_refusal : goal.returns-in-Ok-Run-clause-after_refusal
returns-in-Ok-Run-clause-after_refusal g c store spare =
    let s = g.S.StoreDevice in
    let p = g.P.StoreDevice in
    subst (λ o. IfRefused c.run_order.result.0 (RefusedStores s p o c.args.store
    c.run_order.result.1 c.args.spare c.run_order.result.2))
    (sym (c.in-Ok-Run.ensures.order ∙ ap (λ o. Ok o) c.in-Ok-Run.field-0-is))
    (refused_both c.run_order.result.0 _ _ _
    (λ reason one other. record { of_store = one; of_spare = other })
    (c.run_order.ensures.reread store) (c.run_order.ensures.spare_reread spare))

pub returns-in-Ok-Compact-clause-after_refusal : goal.returns-in-Ok-Compact-clause-after_refusal
returns-in-Ok-Compact-clause-after_refusal g c store spare =
    let s = g.S.StoreDevice in
    let p = g.P.StoreDevice in
    subst (λ o. IfRefused c.compact_order-answer.result.0 (RefusedStores s p o c.args.store
    c.compact_order-answer.result.1 c.args.spare c.compact_order-answer.result.2))
    (sym (c.in-Ok-Compact.ensures.order ∙ ap (λ o. Ok o) c.in-Ok-Compact.field-0-is))
    (c.compact_order-answer.ensures.after_refusal store spare)

pub returns-in-Err-clause-after_refusal : goal.returns-in-Err-clause-after_refusal
returns-in-Err-clause-after_refusal g c store spare =
    let s = g.S.StoreDevice in
    let p = g.P.StoreDevice in
    if_refused c.refuse_words.result _ _
    (λ reason is. ⊎_elim (λ lost. absurd (is.known lost))
    (λ order. subst (λ o. RefusedStores s p o c.args.store c.args.store c.args.spare c.args.spare
    reason) (sym order)
    (alone_both s p c.args.store c.args.spare (g.met.S.StoreDevice.only_now c.args.store)
    (g.met.P.StoreDevice.only_now c.args.spare)))
    c.in-Err.ensures.order) c.refuse_words.ensures.refused

pub returns-in-Ok-Help-clause-second_reread : goal.returns-in-Ok-Help-clause-second_reread
returns-in-Ok-Help-clause-second_reread g c second =
    refused_all c.help.result _ (λ reason. alone_reread g.R.StoreDevice c.args.second
    (g.met.R.StoreDevice.only_now c.args.second))

pub returns-in-Ok-Sample-clause-second_reread : goal.returns-in-Ok-Sample-clause-second_reread
returns-in-Ok-Sample-clause-second_reread g c second =
    refused_all c.sampled.result _ (λ reason. alone_reread g.R.StoreDevice c.args.second
    (g.met.R.StoreDevice.only_now c.args.second))

pub returns-in-Ok-Prune-clause-second_reread : goal.returns-in-Ok-Prune-clause-second_reread
returns-in-Ok-Prune-clause-second_reread g c second =
    refused_all c.prune_order.result _ (λ reason. alone_reread g.R.StoreDevice c.args.second
    (g.met.R.StoreDevice.only_now c.args.second))

pub returns-in-Err-clause-second_reread : goal.returns-in-Err-clause-second_reread
returns-in-Err-clause-second_reread g c second =
    refused_all c.refuse_words.result _ (λ reason. alone_reread g.R.StoreDevice c.args.second
    (g.met.R.StoreDevice.only_now c.args.second))

pub returns-in-Ok-Compact-clause-second_reread : goal.returns-in-Ok-Compact-clause-second_reread
returns-in-Ok-Compact-clause-second_reread g c second =
    refused_all c.compact_order-answer.result.0 _ (λ reason. alone_reread g.R.StoreDevice
    c.args.second (g.met.R.StoreDevice.only_now c.args.second))

-- ---- devices that are not used

pub returns-in-Ok-Run-clause-kept : goal.returns-in-Ok-Run-clause-kept
returns-in-Ok-Run-clause-kept g c =
    subst (λ o. KeepsStore o c.args.store c.run_order.result.1)
    (sym (c.in-Ok-Run.ensures.order ∙ ap (λ o. Ok o) c.in-Ok-Run.field-0-is))
    c.run_order.ensures.kept

pub returns-in-Ok-Run-clause-spare_kept : goal.returns-in-Ok-Run-clause-spare_kept
returns-in-Ok-Run-clause-spare_kept g c =
    subst (λ o. KeepsStore o c.args.spare c.run_order.result.2)
    (sym (c.in-Ok-Run.ensures.order ∙ ap (λ o. Ok o) c.in-Ok-Run.field-0-is))
    c.run_order.ensures.spare_kept

pub returns-in-Ok-Run-clause-second_kept : goal.returns-in-Ok-Run-clause-second_kept
returns-in-Ok-Run-clause-second_kept g c =
    subst (λ o. KeepsSecond o c.args.second c.run_order.result.3)
    (sym (c.in-Ok-Run.ensures.order ∙ ap (λ o. Ok o) c.in-Ok-Run.field-0-is))
    c.run_order.ensures.second_kept

pub returns-in-Ok-Run-clause-shared_kept : goal.returns-in-Ok-Run-clause-shared_kept
returns-in-Ok-Run-clause-shared_kept g c =
    subst (λ o. KeepsShared o c.args.shared c.run_order.result.4)
    (sym (c.in-Ok-Run.ensures.order ∙ ap (λ o. Ok o) c.in-Ok-Run.field-0-is))
    c.run_order.ensures.shared_kept

-- ---- completeness

pub returns-in-Ok-Help-clause-complete : goal.returns-in-Ok-Help-clause-complete
returns-in-Ok-Help-clause-complete g c told store spare second shared =
    completes _ _ c.help.result _ (c.help.ensures.cause (g.W.Tree.state c.args.world.now).faults
    (g.S.StoreDevice.store_faults c.args.store + g.P.StoreDevice.store_faults c.args.spare +
    g.R.StoreDevice.store_faults c.args.second + g.H.Shared.store_faults c.args.shared)
    (g.W.Spawner.runs c.args.world.now).faults)
    (if_refused c.help.result _ _ (λ reason none. absurd none) c.help.ensures.not_refused)

pub returns-in-Ok-Sample-clause-complete : goal.returns-in-Ok-Sample-clause-complete
returns-in-Ok-Sample-clause-complete g c told store spare second shared =
    completes _ _ c.sampled.result _
    (c.sampled.ensures.cause (g.W.Tree.state c.args.world.now).faults (g.S.StoreDevice.store_faults
    c.args.store + g.P.StoreDevice.store_faults c.args.spare + g.R.StoreDevice.store_faults
    c.args.second + g.H.Shared.store_faults c.args.shared)
    (g.W.Spawner.runs c.args.world.now).faults)
    (if_refused c.sampled.result _ _ (λ reason none. absurd none) c.sampled.ensures.not_refused)

pub returns-in-Ok-Compact-clause-complete : goal.returns-in-Ok-Compact-clause-complete
returns-in-Ok-Compact-clause-complete g c told store spare second shared =
    let cause = compact_cause _ _ _ _ _ _ _ _ (g.R.StoreDevice.store_faults c.args.second)
    (g.H.Shared.store_faults c.args.shared) c.compact_order-answer.result.0
    (c.compact_order-answer.ensures.cause (g.W.Tree.state c.args.world.now).faults
    (g.W.Spawner.runs c.args.world.now).faults) in
    let files = (g.W.Tree.state c.args.world.now).files in
    let refusable = stores_at g.S.StoreDevice.content g.P.StoreDevice.content
    g.R.StoreDevice.content g.H.Shared.content g.H.Shared.coming c.args.store c.args.spare
    c.args.second c.args.shared in
    completes _ _ c.compact_order-answer.result.0 _ cause
    (if_refused c.compact_order-answer.result.0 _ _
    (λ reason is. subst (λ o. IsRefusedOrder o c.args.env.now files refusable reason)
    (sym (c.in-Ok-Compact.ensures.order ∙ ap (λ o. Ok o) c.in-Ok-Compact.field-0-is)) is)
    (c.compact_order-answer.ensures.refused store spare))

pub returns-in-Ok-Prune-clause-complete : goal.returns-in-Ok-Prune-clause-complete
returns-in-Ok-Prune-clause-complete g c told store spare second shared =
    let stores = g.S.StoreDevice.store_faults c.args.store + g.P.StoreDevice.store_faults
    c.args.spare + g.R.StoreDevice.store_faults c.args.second + g.H.Shared.store_faults
    c.args.shared in
    let start = (g.W.Spawner.runs c.args.world.now).faults in
    let before = counts_of (g.W.Tree.state c.args.world.now).faults stores start
    (g.K.Sink.faults c.args.out.now) in
    let cause = subst (λ n. HasCauseIn before
    (counts_of (g.W.Tree.state c.prune_order.new.tree).faults stores n
    (g.K.Sink.faults c.prune_order.new.out)) c.prune_order.result)
    (sym (ap (λ r. r.faults) (g.met.W.Spawner.runs_by_rest _ _ c.prune_order.ensures.keeps.rest)))
    (c.prune_order.ensures.cause stores start) in
    let files = (g.W.Tree.state c.args.world.now).files in
    let refusable = stores_at g.S.StoreDevice.content g.P.StoreDevice.content
    g.R.StoreDevice.content g.H.Shared.content g.H.Shared.coming c.args.store c.args.spare
    c.args.second c.args.shared in
    completes _ _ c.prune_order.result _ cause
    (if_refused c.prune_order.result _ _ (λ reason is. subst (λ o. IsRefusedOrder o c.args.env.now
    files refusable reason)
    (sym (c.in-Ok-Prune.ensures.order ∙ ap (λ o. Ok o) c.in-Ok-Prune.field-0-is)) is)
    (c.prune_order.ensures.refused told))

pub returns-in-Ok-Run-clause-complete : goal.returns-in-Ok-Run-clause-complete
returns-in-Ok-Run-clause-complete g c told store spare second shared =
    let files = (g.W.Tree.state c.args.world.now).files in
    let refusable = stores_at g.S.StoreDevice.content g.P.StoreDevice.content
    g.R.StoreDevice.content g.H.Shared.content g.H.Shared.coming c.args.store c.args.spare
    c.args.second c.args.shared in
    run_completes _ _ c.run_order.result.0 _ (cause_told (uses_of c.in-Ok-Run.order) _ _ _
    c.run_order.result.0 shared c.run_order.ensures.cause)
    (if_refused c.run_order.result.0 _ _ (λ reason is. subst (λ o. IsRefusedOrder o c.args.env.now
    files refusable reason)
    (sym (c.in-Ok-Run.ensures.order ∙ ap (λ o. Ok o) c.in-Ok-Run.field-0-is)) is)
    (c.run_order.ensures.refused told store spare second shared))

pub returns-in-Err-clause-complete : goal.returns-in-Err-clause-complete
returns-in-Err-clause-complete g c told store spare second shared =
    let files = (g.W.Tree.state c.args.world.now).files in
    let refusable = stores_at g.S.StoreDevice.content g.P.StoreDevice.content
    g.R.StoreDevice.content g.H.Shared.content g.H.Shared.coming c.args.store c.args.spare
    c.args.second c.args.shared in
    completes _ _ c.refuse_words.result _ (c.refuse_words.ensures.cause
    (g.W.Tree.state c.args.world.now).faults (g.S.StoreDevice.store_faults c.args.store +
    g.P.StoreDevice.store_faults c.args.spare + g.R.StoreDevice.store_faults c.args.second +
    g.H.Shared.store_faults c.args.shared) (g.W.Spawner.runs c.args.world.now).faults)
    (if_refused c.refuse_words.result _ _ (λ reason is. ⊎_elim (λ lost. absurd (is.known lost))
    (λ order. subst (λ o. IsRefusedOrder o c.args.env.now files refusable reason) (sym order) is.is)
    c.in-Err.ensures.order) c.refuse_words.ensures.refused)
