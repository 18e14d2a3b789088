-- The run over the stores that an order uses, and the devices that it leaves alone.
use Rattle.std.proofs.Common.{◌+◌, refl, arith}
use Rattle.refusals.specs.declared.refusal.StoreFile.TheVariants as file
use Rattle.answers.specs.Facts.{if_fault, if_refused}
use Rattle.store_answers.specs.Facts.{same_stores}
use Rattle.store_answers.specs.Refused.{IsNoStore, IsNoStores}
use Rattle.store_answers.specs.Stores.{stores_of}
use Rattle.cache_runs.proofs.Causes.{cause_in_sum}
use Rattle.cache_runs.proofs.Finished.{done_as, done_all, done_under, refused_all}
use Rattle.second_runs.proofs.Reading.{alone, alone_reread}
use Rattle.run_orders.specs.Facts.{self_both, alone_pairs, reread_other, unchanged}
use Rattle.run_orders.proofs.Alone.{alone_puts, alone_shared, other_by}
use Rattle.run_orders.proofs.Causes.{over_in_sum}
use Rattle.run_orders.proofs.Only.{only_reason, not_current, not_shared, same_reason}
use Rattle.run_orders.proofs.planned.run_planned.Goals as goal

-- ---- over the current one of two

pub returns-in-Current-clause-ran : goal.returns-in-Current-clause-ran
returns-in-Current-clause-ran g c told store spare second shared =
    rw c.in-Current.is (done_as _ _ c.run_current-answer.result.0 (λ status was. was)
    (c.run_current-answer.ensures.ran told store spare))

pub returns-in-Current-clause-lasts : goal.returns-in-Current-clause-lasts
returns-in-Current-clause-lasts g c store =
    rw c.in-Current.is (done_as _ _ c.run_current-answer.result.0 (λ status was. was)
    (c.run_current-answer.ensures.lasts store))

pub returns-in-Current-clause-spare_lasts : goal.returns-in-Current-clause-spare_lasts
returns-in-Current-clause-spare_lasts g c spare =
    rw c.in-Current.is (done_as _ _ c.run_current-answer.result.0 (λ status was. was)
    (c.run_current-answer.ensures.spare_lasts spare))

pub returns-in-Current-clause-refused : goal.returns-in-Current-clause-refused
returns-in-Current-clause-refused g c told store spare second shared =
    rw c.in-Current.is (if_refused c.run_current-answer.result.0 _ _ (λ reason no. no)
    (c.run_current-answer.ensures.refused store spare))

pub returns-in-Current-clause-only : goal.returns-in-Current-clause-only
returns-in-Current-clause-only g c told store spare second shared =
    let stores = stores_of (g.S.StoreDevice.content c.args.store)
    (g.P.StoreDevice.content c.args.spare) in
    rw c.in-Current.is (only_reason (IsNoStores stores) c.run_current-answer.result.0
    (done_as _ _ c.run_current-answer.result.0 (λ status was. not_current stores
    c.args.order.now.dry _ _ _ _ _ status was refl) (c.run_current-answer.ensures.ran told store
    spare))
    (if_refused c.run_current-answer.result.0 _ _ (λ other no reason is. same_stores stores reason
    other is no) (c.run_current-answer.ensures.refused store spare)))

pub returns-in-Current-clause-stopped : goal.returns-in-Current-clause-stopped
returns-in-Current-clause-stopped g c told store spare second shared heard =
    rw c.in-Current.is (if_fault c.run_current-answer.result.0 _ _ (λ cause line was. was)
    (c.run_current-answer.ensures.stopped told store spare heard))

pub returns-in-Current-clause-kept : goal.returns-in-Current-clause-kept
returns-in-Current-clause-kept g c =
    rw c.in-Current.is tt

pub returns-in-Current-clause-spare_kept : goal.returns-in-Current-clause-spare_kept
returns-in-Current-clause-spare_kept g c =
    rw c.in-Current.is tt

pub returns-in-Current-clause-sound : goal.returns-in-Current-clause-sound
returns-in-Current-clause-sound g c store spare second =
    rw c.in-Current.is (c.run_current-answer.ensures.sound store)

pub returns-in-Current-clause-spare_sound : goal.returns-in-Current-clause-spare_sound
returns-in-Current-clause-spare_sound g c store spare second =
    rw c.in-Current.is (c.run_current-answer.ensures.spare_sound spare)

pub returns-in-Current-clause-left : goal.returns-in-Current-clause-left
returns-in-Current-clause-left g c told store spare second shared =
    rw c.in-Current.is (c.run_current-answer.ensures.left told store spare)

pub returns-in-Current-clause-second_lasts : goal.returns-in-Current-clause-second_lasts
returns-in-Current-clause-second_lasts g c second =
    rw c.in-Current.is (done_all _ c.run_current-answer.result.0 (λ status. tt))

pub returns-in-Current-clause-second_reread : goal.returns-in-Current-clause-second_reread
returns-in-Current-clause-second_reread g c second =
    refused_all _ c.run_current-answer.result.0 (λ reason. alone_reread g.R.StoreDevice
    c.args.second (g.met.R.StoreDevice.only_now c.args.second))

pub returns-in-Current-clause-second_kept : goal.returns-in-Current-clause-second_kept
returns-in-Current-clause-second_kept g c =
    rw c.in-Current.is refl

pub returns-in-Current-clause-second_sound : goal.returns-in-Current-clause-second_sound
returns-in-Current-clause-second_sound g c store spare second =
    alone_puts g.R.StoreDevice c.args.second (g.met.R.StoreDevice.only_now c.args.second) _

pub returns-in-Current-clause-second_left : goal.returns-in-Current-clause-second_left
returns-in-Current-clause-second_left g c told store spare second shared trusted =
    rw c.in-Current.is (alone g.R.StoreDevice c.args.second (g.met.R.StoreDevice.only_now
    c.args.second))

pub returns-in-Current-clause-shared_lasts : goal.returns-in-Current-clause-shared_lasts
returns-in-Current-clause-shared_lasts g c shared =
    rw c.in-Current.is (done_all _ c.run_current-answer.result.0 (λ status. tt))

pub returns-in-Current-clause-shared_kept : goal.returns-in-Current-clause-shared_kept
returns-in-Current-clause-shared_kept g c =
    rw c.in-Current.is refl

pub returns-in-Current-clause-shared_sound : goal.returns-in-Current-clause-shared_sound
returns-in-Current-clause-shared_sound g c shared =
    λ sound image left. sound image (g.met.H.Shared.only_now c.args.shared image left)

pub returns-in-Current-clause-shared_adds : goal.returns-in-Current-clause-shared_adds
returns-in-Current-clause-shared_adds g c shared =
    alone_shared g.H.Shared c.args.shared (g.met.H.Shared.only_now c.args.shared) _ _

pub returns-in-Current-clause-shared_left : goal.returns-in-Current-clause-shared_left
returns-in-Current-clause-shared_left g c told store spare second shared trusted =
    rw c.in-Current.is (unchanged g.H.Shared.moment g.H.Shared.images_since g.H.Shared.images _
    c.args.shared (g.met.H.Shared.only_now c.args.shared) (λ image now. now))

pub returns-in-Current-clause-cause : goal.returns-in-Current-clause-cause
returns-in-Current-clause-cause g c =
    rw c.in-Current.is (cause_in_sum (g.W.Tree.state c.args.world.now).faults
    (g.W.Tree.state c.run_current-answer.new.world).faults
    (g.W.Spawner.runs c.args.world.now).faults
    (g.W.Spawner.runs c.run_current-answer.new.world).faults
    (g.K.Sink.faults c.args.out.now) (g.K.Sink.faults c.run_current-answer.new.out)
    (g.S.StoreDevice.store_faults c.args.store + g.P.StoreDevice.store_faults c.args.spare)
    (g.S.StoreDevice.store_faults c.run_current-answer.result.1 + g.P.StoreDevice.store_faults
    c.run_current-answer.result.2)
    (g.R.StoreDevice.store_faults c.args.second + g.H.Shared.store_faults c.args.shared)
    _ _ c.run_current-answer.result.0 (omega arith) (omega arith)
    c.run_current-answer.ensures.cause)

-- ---- over the second store

pub run_second-answer-requires-clause-second : goal.run_second-answer-requires-clause-second
run_second-answer-requires-clause-second g c = c.requires.second c.in-Second.is

pub returns-in-Second-clause-ran : goal.returns-in-Second-clause-ran
returns-in-Second-clause-ran g c told store spare second shared =
    rw c.in-Second.is (done_as _ _ c.run_second-answer.result.0 (λ status was. was)
    (c.run_second-answer.ensures.ran told store spare second))

pub returns-in-Second-clause-lasts : goal.returns-in-Second-clause-lasts
returns-in-Second-clause-lasts g c store =
    rw c.in-Second.is (done_under c.run_second-answer.result.0 _ _
    (c.run_second-answer.ensures.lasts store))

pub returns-in-Second-clause-spare_lasts : goal.returns-in-Second-clause-spare_lasts
returns-in-Second-clause-spare_lasts g c spare =
    rw c.in-Second.is (done_under c.run_second-answer.result.0 _ _
    (c.run_second-answer.ensures.spare_lasts spare))

pub returns-in-Second-clause-second_lasts : goal.returns-in-Second-clause-second_lasts
returns-in-Second-clause-second_lasts g c second =
    rw c.in-Second.is (done_as _ _ c.run_second-answer.result.0 (λ status was. was)
    (c.run_second-answer.ensures.second_lasts second))

pub returns-in-Second-clause-refused : goal.returns-in-Second-clause-refused
returns-in-Second-clause-refused g c told store spare second shared =
    rw c.in-Second.is (if_refused c.run_second-answer.result.0 _ _ (λ reason no. no)
    (c.run_second-answer.ensures.refused store spare second))

pub returns-in-Second-clause-only : goal.returns-in-Second-clause-only
returns-in-Second-clause-only g c told store spare second shared =
    rw c.in-Second.is (c.run_second-answer.ensures.only told store spare second)

pub returns-in-Second-clause-stopped : goal.returns-in-Second-clause-stopped
returns-in-Second-clause-stopped g c told store spare second shared heard =
    rw c.in-Second.is (if_fault c.run_second-answer.result.0 _ _ (λ cause line was. was)
    (c.run_second-answer.ensures.stopped told store spare second heard _))

pub returns-in-Second-clause-kept : goal.returns-in-Second-clause-kept
returns-in-Second-clause-kept g c =
    rw c.in-Second.is (λ none. (c.run_second-answer.ensures.alone none).0)

pub returns-in-Second-clause-spare_kept : goal.returns-in-Second-clause-spare_kept
returns-in-Second-clause-spare_kept g c =
    rw c.in-Second.is (λ none. (c.run_second-answer.ensures.alone none).1)

pub returns-in-Second-clause-second_kept : goal.returns-in-Second-clause-second_kept
returns-in-Second-clause-second_kept g c =
    rw c.in-Second.is tt

pub returns-in-Second-clause-sound : goal.returns-in-Second-clause-sound
returns-in-Second-clause-sound g c store spare second =
    rw c.in-Second.is (c.run_second-answer.ensures.sound store spare second)

pub returns-in-Second-clause-spare_sound : goal.returns-in-Second-clause-spare_sound
returns-in-Second-clause-spare_sound g c store spare second =
    rw c.in-Second.is (c.run_second-answer.ensures.spare_sound store spare second)

pub returns-in-Second-clause-second_sound : goal.returns-in-Second-clause-second_sound
returns-in-Second-clause-second_sound g c store spare second =
    rw c.in-Second.is (c.run_second-answer.ensures.second_sound store spare second)

pub returns-in-Second-clause-other : goal.returns-in-Second-clause-other
returns-in-Second-clause-other g c store spare =
    other_by g.S.StoreDevice g.P.StoreDevice c.args.store c.run_second-answer.result.1 c.args.spare
    c.run_second-answer.result.2 _ (c.run_second-answer.ensures.other store spare)
    (c.run_second-answer.ensures.spare_other store spare)

pub returns-in-Second-clause-left : goal.returns-in-Second-clause-left
returns-in-Second-clause-left g c told store spare second shared =
    rw c.in-Second.is (c.run_second-answer.ensures.pairs_left told store spare second)

pub returns-in-Second-clause-second_left : goal.returns-in-Second-clause-second_left
returns-in-Second-clause-second_left g c told store spare second shared =
    rw c.in-Second.is (c.run_second-answer.ensures.second_left told store spare second)

pub returns-in-Second-clause-shared_lasts : goal.returns-in-Second-clause-shared_lasts
returns-in-Second-clause-shared_lasts g c shared =
    rw c.in-Second.is (done_all _ c.run_second-answer.result.0 (λ status. tt))

pub returns-in-Second-clause-shared_kept : goal.returns-in-Second-clause-shared_kept
returns-in-Second-clause-shared_kept g c =
    rw c.in-Second.is refl

pub returns-in-Second-clause-shared_sound : goal.returns-in-Second-clause-shared_sound
returns-in-Second-clause-shared_sound g c shared =
    λ sound image left. sound image (g.met.H.Shared.only_now c.args.shared image left)

pub returns-in-Second-clause-shared_adds : goal.returns-in-Second-clause-shared_adds
returns-in-Second-clause-shared_adds g c shared =
    alone_shared g.H.Shared c.args.shared (g.met.H.Shared.only_now c.args.shared) _ _

pub returns-in-Second-clause-shared_left : goal.returns-in-Second-clause-shared_left
returns-in-Second-clause-shared_left g c told store spare second shared trusted =
    rw c.in-Second.is (unchanged g.H.Shared.moment g.H.Shared.images_since g.H.Shared.images _
    c.args.shared (g.met.H.Shared.only_now c.args.shared) (λ image now. now))

pub returns-in-Second-clause-cause : goal.returns-in-Second-clause-cause
returns-in-Second-clause-cause g c =
    rw c.in-Second.is (cause_in_sum (g.W.Tree.state c.args.world.now).faults
    (g.W.Tree.state c.run_second-answer.new.world).faults
    (g.W.Spawner.runs c.args.world.now).faults
    (g.W.Spawner.runs c.run_second-answer.new.world).faults
    (g.K.Sink.faults c.args.out.now) (g.K.Sink.faults c.run_second-answer.new.out)
    (g.S.StoreDevice.store_faults c.args.store + g.P.StoreDevice.store_faults c.args.spare +
    g.R.StoreDevice.store_faults c.args.second)
    (g.S.StoreDevice.store_faults c.run_second-answer.result.1 + g.P.StoreDevice.store_faults
    c.run_second-answer.result.2 + g.R.StoreDevice.store_faults c.run_second-answer.result.3)
    (g.H.Shared.store_faults c.args.shared)
    _ _ c.run_second-answer.result.0 (omega arith) (omega arith) c.run_second-answer.ensures.cause)

-- ---- over the shared file

pub returns-in-Shared-clause-ran : goal.returns-in-Shared-clause-ran
returns-in-Shared-clause-ran g c told store spare second shared =
    rw c.in-Shared.is (done_as _ _ c.run_shared-answer.result.0 (λ status was. was)
    (c.run_shared-answer.ensures.ran told shared))

pub returns-in-Shared-clause-lasts : goal.returns-in-Shared-clause-lasts
returns-in-Shared-clause-lasts g c store =
    rw c.in-Shared.is (done_all _ c.run_shared-answer.result.0 (λ status. tt))

pub returns-in-Shared-clause-spare_lasts : goal.returns-in-Shared-clause-spare_lasts
returns-in-Shared-clause-spare_lasts g c spare =
    rw c.in-Shared.is (done_all _ c.run_shared-answer.result.0 (λ status. tt))

pub returns-in-Shared-clause-shared_lasts : goal.returns-in-Shared-clause-shared_lasts
returns-in-Shared-clause-shared_lasts g c shared =
    rw c.in-Shared.is (done_as _ _ c.run_shared-answer.result.0 (λ status was. was)
    (c.run_shared-answer.ensures.lasts shared))

pub returns-in-Shared-clause-refused : goal.returns-in-Shared-clause-refused
returns-in-Shared-clause-refused g c told store spare second shared =
    rw c.in-Shared.is (if_refused c.run_shared-answer.result.0 _ _ (λ reason no. no)
    (c.run_shared-answer.ensures.refused shared))

pub returns-in-Shared-clause-only : goal.returns-in-Shared-clause-only
returns-in-Shared-clause-only g c told store spare second shared =
    let bytes = g.H.Shared.content c.args.shared in
    rw c.in-Shared.is (only_reason (IsNoStore file.Shared bytes) c.run_shared-answer.result.0
    (done_as _ _ c.run_shared-answer.result.0 (λ status was. not_shared file.Shared bytes
    (g.H.Shared.coming c.args.shared) c.args.order.now.dry _ _ _ _ _ _ status was refl)
    (c.run_shared-answer.ensures.ran told shared))
    (if_refused c.run_shared-answer.result.0 _ _ (λ other no reason is. same_reason file.Shared
    bytes reason other is no) (c.run_shared-answer.ensures.refused shared)))

pub returns-in-Shared-clause-reread : goal.returns-in-Shared-clause-reread
returns-in-Shared-clause-reread g c store =
    refused_all _ c.run_shared-answer.result.0 (λ reason. alone_reread g.S.StoreDevice c.args.store
    (g.met.S.StoreDevice.only_now c.args.store))

pub returns-in-Shared-clause-spare_reread : goal.returns-in-Shared-clause-spare_reread
returns-in-Shared-clause-spare_reread g c spare =
    refused_all _ c.run_shared-answer.result.0 (λ reason. alone_reread g.P.StoreDevice c.args.spare
    (g.met.P.StoreDevice.only_now c.args.spare))

pub returns-in-Shared-clause-stopped : goal.returns-in-Shared-clause-stopped
returns-in-Shared-clause-stopped g c told store spare second shared heard =
    rw c.in-Shared.is (if_fault c.run_shared-answer.result.0 _ _ (λ cause line was. was)
    (c.run_shared-answer.ensures.stopped told shared heard))

pub returns-in-Shared-clause-kept : goal.returns-in-Shared-clause-kept
returns-in-Shared-clause-kept g c =
    rw c.in-Shared.is refl

pub returns-in-Shared-clause-spare_kept : goal.returns-in-Shared-clause-spare_kept
returns-in-Shared-clause-spare_kept g c =
    rw c.in-Shared.is refl

pub returns-in-Shared-clause-shared_kept : goal.returns-in-Shared-clause-shared_kept
returns-in-Shared-clause-shared_kept g c =
    rw c.in-Shared.is tt

pub returns-in-Shared-clause-sound : goal.returns-in-Shared-clause-sound
returns-in-Shared-clause-sound g c store spare second =
    alone_puts g.S.StoreDevice c.args.store (g.met.S.StoreDevice.only_now c.args.store) _

pub returns-in-Shared-clause-spare_sound : goal.returns-in-Shared-clause-spare_sound
returns-in-Shared-clause-spare_sound g c store spare second =
    alone_puts g.P.StoreDevice c.args.spare (g.met.P.StoreDevice.only_now c.args.spare) _

pub returns-in-Shared-clause-other : goal.returns-in-Shared-clause-other
returns-in-Shared-clause-other g c store spare =
    reread_other g.S.StoreDevice g.P.StoreDevice c.args.store c.args.store c.args.spare c.args.spare
    (alone_reread g.S.StoreDevice c.args.store (g.met.S.StoreDevice.only_now c.args.store))
    (alone_reread g.P.StoreDevice c.args.spare (g.met.P.StoreDevice.only_now c.args.spare)) _

pub returns-in-Shared-clause-left : goal.returns-in-Shared-clause-left
returns-in-Shared-clause-left g c told store spare second shared trusted =
    rw c.in-Shared.is (alone_pairs g.S.StoreDevice g.P.StoreDevice c.args.store c.args.spare _
    (g.met.S.StoreDevice.only_now c.args.store) (g.met.P.StoreDevice.only_now c.args.spare)
    (λ f e now also. self_both _ _ f e now also))

pub returns-in-Shared-clause-shared_left : goal.returns-in-Shared-clause-shared_left
returns-in-Shared-clause-shared_left g c told store spare second shared =
    rw c.in-Shared.is (c.run_shared-answer.ensures.left told shared)

pub returns-in-Shared-clause-shared_adds : goal.returns-in-Shared-clause-shared_adds
returns-in-Shared-clause-shared_adds g c shared =
    rw c.in-Shared.is (c.run_shared-answer.ensures.grows shared)

pub returns-in-Shared-clause-second_lasts : goal.returns-in-Shared-clause-second_lasts
returns-in-Shared-clause-second_lasts g c second =
    rw c.in-Shared.is (done_all _ c.run_shared-answer.result.0 (λ status. tt))

pub returns-in-Shared-clause-second_reread : goal.returns-in-Shared-clause-second_reread
returns-in-Shared-clause-second_reread g c second =
    refused_all _ c.run_shared-answer.result.0 (λ reason. alone_reread g.R.StoreDevice c.args.second
    (g.met.R.StoreDevice.only_now c.args.second))

pub returns-in-Shared-clause-second_kept : goal.returns-in-Shared-clause-second_kept
returns-in-Shared-clause-second_kept g c =
    rw c.in-Shared.is refl

pub returns-in-Shared-clause-second_sound : goal.returns-in-Shared-clause-second_sound
returns-in-Shared-clause-second_sound g c store spare second =
    alone_puts g.R.StoreDevice c.args.second (g.met.R.StoreDevice.only_now c.args.second) _

pub returns-in-Shared-clause-second_left : goal.returns-in-Shared-clause-second_left
returns-in-Shared-clause-second_left g c told store spare second shared trusted =
    rw c.in-Shared.is (alone g.R.StoreDevice c.args.second (g.met.R.StoreDevice.only_now
    c.args.second))

pub returns-in-Shared-clause-cause : goal.returns-in-Shared-clause-cause
returns-in-Shared-clause-cause g c =
    rw c.in-Shared.is (over_in_sum g.H.Device.StoreDevice.tells
    (g.W.Tree.state c.args.world.now).faults (g.W.Tree.state c.run_shared-answer.new.world).faults
    (g.W.Spawner.runs c.args.world.now).faults
    (g.W.Spawner.runs c.run_shared-answer.new.world).faults
    (g.K.Sink.faults c.args.out.now) (g.K.Sink.faults c.run_shared-answer.new.out)
    (g.H.Shared.store_faults c.args.shared) (g.H.Shared.store_faults c.run_shared-answer.result.1)
    (g.S.StoreDevice.store_faults c.args.store + g.P.StoreDevice.store_faults c.args.spare +
    g.R.StoreDevice.store_faults c.args.second)
    _ _ c.run_shared-answer.result.0 (omega arith) (omega arith) c.run_shared-answer.ensures.cause)
