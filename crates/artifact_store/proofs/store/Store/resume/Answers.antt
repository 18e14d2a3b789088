use Rattle.std.proofs.Common.{List, sym, subst}
use Rattle.std.specs.Prelude.{◌≤◌, length, take}
use Rattle.std.proofs.lemmas.Result.{IfOk-weaker, IfErr-weaker}
use Rattle.rel_path.specs.Causes.{Counts}
use Rattle.record_log.specs.Kinds.{Entry}
use Rattle.record_log.specs.Frames.{reading, frames_of, ReadsAsOneOf}
use Rattle.blob_pool.specs.Known.{KnowsFirst}
use Rattle.pair_index.specs.Index.{IsIndexOf}
use Rattle.artifact_store.specs.Answers.{IsFaultOf, is_fault, raised}
use Rattle.artifact_store.specs.Pairs.{IsOneOf}
use Rattle.artifact_store.specs.Marks.{foreseen}
use Rattle.artifact_store.specs.Opened.{IsOpened, IsUnopened, IsStoreOf, IsUnread}
use Rattle.artifact_store.specs.Laws.{frames_are}
use Rattle.artifact_store.proofs.Carry.{one_of, stand_leaves}
use Rattle.artifact_store.proofs.Opening.{fault_as, cause_as, store_opened, store_unopened}
use Rattle.artifact_store.proofs.store.Store.resume.Goals as goal

pub of_log-requires-clause-few : goal.of_log-requires-clause-few
of_log-requires-clause-few g c told =
    let s = g.S.StoreDevice in
    let bytes = s.content c.args.store in
    let now = frames_of (s.content c.in-Ok.log.device) in
    subst (λ (l : List Entry). c.args.mark.count ≤ length l) (frames_are bytes now (c.in-Ok.ensures.ok told).frames)
    (c.requires told).few

pub of_log-requires-clause-contents : goal.of_log-requires-clause-contents
of_log-requires-clause-contents g c told =
    let s = g.S.StoreDevice in
    let bytes = s.content c.args.store in
    let now = frames_of (s.content c.in-Ok.log.device) in
    subst (λ (l : List Entry). KnowsFirst c.args.mark.pool l c.args.mark.count)
    (frames_are bytes now (c.in-Ok.ensures.ok told).frames) (c.requires told).pool

pub of_log-requires-clause-known : goal.of_log-requires-clause-known
of_log-requires-clause-known g c told =
    let s = g.S.StoreDevice in
    let bytes = s.content c.args.store in
    let now = frames_of (s.content c.in-Ok.log.device) in
    subst (λ (l : List Entry). IsIndexOf c.args.mark.index (take c.args.mark.count l))
    (frames_are bytes now (c.in-Ok.ensures.ok told).frames) (c.requires told).index

pub returns-in-Ok-clause-opened : goal.returns-in-Ok-clause-opened
returns-in-Ok-clause-opened g c =
    let s = g.S.StoreDevice in
    let laws = g.met.S.StoreDevice in
    let log = c.in-Ok.log in
    let from = c.in-Ok.ensures in
    let lengths = foreseen c.args.mark in
    IfOk-weaker c.of_log.result (IsStoreOf log lengths) (IsOpened c.args.store lengths)
    (store_opened s c.args.store log from.ok from.images_ok from.cause_ok (laws.only_now log.device) (laws.counts_now log.device) lengths)
    c.of_log.ensures.ok

pub returns-in-Ok-clause-unopened : goal.returns-in-Ok-clause-unopened
returns-in-Ok-clause-unopened g c =
    let s = g.S.StoreDevice in
    let laws = g.met.S.StoreDevice in
    let log = c.in-Ok.log in
    let from = c.in-Ok.ensures in
    IfErr-weaker c.of_log.result (IsUnread log) (IsUnopened s c.args.store)
    (store_unopened s c.args.store log from.ok from.images_ok from.cause_ok (laws.only_now log.device) (laws.counts_now log.device))
    c.of_log.ensures.err

pub returns-in-Err-clause-unopened : goal.returns-in-Err-clause-unopened
returns-in-Err-clause-unopened g c =
    let s = g.S.StoreDevice in
    let start = c.args.store in
    let images = s.images start in
    let from = c.in-Err.ensures in
    let u = c.in-Err.field-0 in
    record {
      fault = λ told.
          subst (λ e. IsFaultOf e (reading (s.content start))) (sym c.open_err.ensures)
          (fault_as u.fault (reading (s.content start)) (from.fault told));
      same = λ told long. from.same told long;
      images = λ told. from.images_err told;
      left = λ told.
          stand_leaves s.moment s.images_since start u.store (ReadsAsOneOf images) (IsOneOf images)
          (from.images_err told) (one_of images);
      cause = subst (λ e. Counts is_fault (s.store_faults start) (s.store_faults u.store) (raised e)) (sym c.open_err.ensures)
          (cause_as u.fault (s.store_faults start) (s.store_faults u.store) from.cause_err);
    }
