use Rattle.std.proofs.Common.{◌≡◌, List, take, refl, sym, ◌∙◌, subst, arith}
use Rattle.record_log.specs.Kinds.{Entry}
use Rattle.record_log.specs.Log.{count_of}
use Rattle.blob_pool.specs.Laws.{reads_log_none, reads_log_both, frames_read}
use Rattle.pair_index.specs.Index.{IsIndexOf, FramesBelow}
use Rattle.pair_index.proofs.index.Index.read_from.Goals as goal

pub loop-next-init : goal.loop-next-init
loop-next-init g c = record {
  log = reads_log_none c.args.log.now;
  faults = refl;
  inside = c.requires.first;
  below = c.requires.below;
  lengths = refl;
  told = c.requires.known;
}

pub read_some-requires-clause-known : goal.read_some-requires-clause-known
read_some-requires-clause-known g c told =
    subst (λ (fs : List Entry). IsIndexOf c.loop-next.self (take c.loop-next.next fs))
    (sym (frames_read c.args.log.now c.loop-next.log c.loop-next.invariant.log)) (c.loop-next.invariant.told told)

pub returns-in_err-next-clause-log : goal.returns-in_err-next-clause-log
returns-in_err-next-clause-log g c =
    reads_log_both c.args.log.now c.loop-next.log c.read_some.new.log c.loop-next.invariant.log c.read_some.ensures.log

pub loop-next-preserved : goal.loop-next-preserved
loop-next-preserved g c =
    let log = c.args.log.now in
    let now = c.loop-next.log in
    let inv = c.loop-next.invariant in
    let read = c.in_ok-next.ensures in
    record {
      log = reads_log_both log now c.read_some.new.log inv.log read.log;
      faults = read.cause.counted ∙ inv.faults;
      inside = omega (arith, read.inside, inv.log.count);
      below = read.below;
      lengths = read.lengths ∙ inv.lengths;
      told = λ told.
          subst (λ (fs : List Entry). IsIndexOf c.read_some.new.self (take c.in_ok-next.next fs))
          (frames_read log now inv.log) (read.index told);
    }

pub returns-clause-index : goal.returns-clause-index
returns-clause-index g c =
    let log = c.args.log.now in
    let now = c.loop-next.log in
    let inv = c.loop-next.invariant in
    let all : c.loop-next.next ≡ count_of now =
    omega (arith, c.loop-next-test.false, c.frames.ensures.count, inv.inside, inv.log.count) in
    record {
      told = λ told.
          subst (IsIndexOf c.loop-next.self) (λ i. take (all i) (sym (frames_read log now inv.log) i)) (inv.told told);
      below = subst (FramesBelow c.loop-next.self) all inv.below;
    }
