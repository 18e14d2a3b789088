use Rattle.std.proofs.Common.{sym, subst}
use Rattle.rel_path.specs.declared.span.Span.{Span}
use Rattle.record_log.specs.Frames.{frames_of, text_of}
use Rattle.record_log.specs.Seats.{IsSpanOf}
use Rattle.record_log.proofs.Places.{value_told}
use Rattle.record_log.proofs.log.Log.value_span.Goals as goal

pub returns : goal.returns
returns g c told e at =
    let log = c.args.self.now in
    let content = g.S.StoreDevice.content log.device in
    let it = value_told content log.mark c.args.number c.index-seat.result.now e (g.met.S.StoreDevice.are_bytes log.device told) (g.met.S.StoreDevice.few_bytes log.device told) (log.front told) c.requires at c.index-seat.ensures in
    subst (λ (span : Span). IsSpanOf (text_of (frames_of content)) span e.value) (sym c.value.ensures) it
