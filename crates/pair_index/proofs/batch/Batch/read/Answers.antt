use Rattle.std.proofs.Common.{ℕ, ◌+◌, List, refl, sym, ◌∙◌, ap, subst, arith}
use Rattle.record_log.specs.Kinds.{Entry}
use Rattle.record_log.specs.Log.{frames_in}
use Rattle.blob_pool.specs.Laws.{reads_log_none, reads_log_both, frames_read}
use Rattle.pair_index.specs.Batch.{IsBatchOf}
use Rattle.pair_index.proofs.BatchLaws.{batch_none, numbers_none}
use Rattle.pair_index.proofs.batch.Batch.read.Goals as goal

pub loop-number-init : goal.loop-number-init
loop-number-init g c = record {
  log = reads_log_none c.args.log.now;
  faults = refl;
  next = c.new-batch.ensures.next;
  below = numbers_none c.new-batch.result c.new-batch.ensures.numbers;
  told = λ told.
      batch_none c.args.lengths.now (frames_in c.args.log.now) c.args.first c.new-batch.result c.new-batch.ensures.next c.new-batch.ensures.numbers c.new-batch.ensures.keys;
}

pub returns-in_err-read_next-clause-log : goal.returns-in_err-read_next-clause-log
returns-in_err-read_next-clause-log g c =
    reads_log_both c.args.log.now c.loop-number.log c.read_next.new.log c.loop-number.invariant.log c.read_next.ensures.log

pub read_next-requires-clause-next : goal.read_next-requires-clause-next
read_next-requires-clause-next g c =
    omega (arith, c.loop-number-test.true, c.frames-number-end.ensures.count, c.loop-number.invariant.next, c.loop-number.invariant.log.count)

pub loop-number-preserved : goal.loop-number-preserved
loop-number-preserved g c =
    let log = c.args.log.now in
    let now = c.loop-number.log in
    let inv = c.loop-number.invariant in
    let read = c.in_ok-read_next.ensures in
    record {
      log = reads_log_both log now c.read_next.new.log inv.log read.log;
      faults = read.cause.counted ∙ inv.faults;
      next = read.next ∙ ap (λ (n : ℕ). n + 1) inv.next;
      below = read.below inv.below;
      told = λ told.
          subst (λ (fs : List Entry). IsBatchOf c.args.lengths.now fs c.args.first c.read_next.new.self) (frames_read log now inv.log)
          (read.batch told c.args.first (subst (λ (fs : List Entry). IsBatchOf c.args.lengths.now fs c.args.first c.loop-number.batch)
          (sym (frames_read log now inv.log)) (inv.told told)));
    }

pub returns-then-is_full-clause-batch : goal.returns-then-is_full-clause-batch
returns-then-is_full-clause-batch g c told =
    let log = c.args.log.now in
    let now = c.loop-number.log in
    let inv = c.loop-number.invariant in
    subst (λ (fs : List Entry). IsBatchOf c.args.lengths.now fs c.args.first c.read_next.new.self) (frames_read log now inv.log)
    (c.in_ok-read_next.ensures.batch told c.args.first (subst (λ (fs : List Entry). IsBatchOf c.args.lengths.now fs c.args.first c.loop-number.batch)
    (sym (frames_read log now inv.log)) (inv.told told)))

pub returns-then-is_full-clause-log : goal.returns-then-is_full-clause-log
returns-then-is_full-clause-log g c =
    reads_log_both c.args.log.now c.loop-number.log c.read_next.new.log c.loop-number.invariant.log c.in_ok-read_next.ensures.log
