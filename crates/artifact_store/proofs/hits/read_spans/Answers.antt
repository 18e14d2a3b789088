use Rattle.std.proofs.Common.{◌++◌, ℕ, List, get_or, sym, ◌∙◌, ap, arith}
use Rattle.rel_path.specs.declared.span.Span.{Span}
use Rattle.record_log.specs.Kinds.{Entry}
use Rattle.record_log.specs.Frames.{text_of}
use Rattle.record_log.specs.Log.{frames_in}
use Rattle.blob_pool.specs.Laws.{reads_log_both, frames_read}
use Rattle.artifact_reader.specs.Parts.{at_span}
use Rattle.artifact_store.proofs.Shown.{shown_more}
use Rattle.artifact_store.proofs.hits.read_spans.Goals as goal

pub loop-span-preserved : goal.loop-span-preserved
loop-span-preserved g c = record {
  log = reads_log_both c.args.log.now c.loop-span.log c.add_span.new.log c.loop-span.invariant.log c.in_ok-add_span.ensures.log;
  faults = c.in_ok-add_span.ensures.cause.counted ∙ c.loop-span.invariant.faults;
  few = omega (arith, c.loop-span.invariant.few, c.in_ok-add_span.ensures.few);
  bytes = λ told.
      let log = c.args.log.now in
      let same = frames_read log c.loop-span.log c.loop-span.invariant.log in
      let d : Span = record { at = 0; len = 0 } in
      let item = get_or c.args.spans.now c.loop-span.span-index d in
      c.in_ok-add_span.ensures.bytes told
      ∙ ap (λ (l : List Entry). c.loop-span.bytes.items ++ at_span (text_of l) item) same
      ∙ ap (λ (l : List ℕ). l ++ at_span (text_of (frames_in log)) item) (c.loop-span.invariant.bytes told)
      ∙ sym (shown_more (text_of (frames_in log)) c.args.spans.now c.loop-span.span-index d c.loop-span-test.true);
}
