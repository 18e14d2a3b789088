use Rattle.std.proofs.Common.{sym, subst}
use Rattle.record_log.specs.Frames.{text_of}
use Rattle.record_log.specs.Log.{frames_in}
use Rattle.record_log.specs.Answers.{entry_of}
use Rattle.pair_reader.specs.Standing.{StandsAt}
use Rattle.pair_reader.proofs.Cutting.{stands_at}
use Rattle.pair_reader.proofs.parse.whole_pieces.Goals as goal

pub returns-clause-there : goal.returns-clause-there
returns-clause-there g c count = (c.in_ok-key.ensures.there count, c.in_ok-value.ensures.there count)

pub returns-clause-show : goal.returns-clause-show
returns-clause-show g c told contents =
    let text = text_of (frames_in c.args.log.now) in
    let e = entry_of c.args.frame.now in
    let at = c.requires.frame told in
    let key = stands_at text c.key_span.result e.key (c.key_span.ensures told e at) in
    let value = stands_at text c.value_span.result e.value (c.value_span.ensures told e at) in (
      c.in_ok-key.ensures.show text contents (subst (StandsAt text c.key_span.result.at) (sym c.as_slice.ensures) key),
      c.in_ok-value.ensures.show text contents (subst (StandsAt text c.value_span.result.at) (sym c.as_slice-2.ensures) value),
    )
