use Rattle.std.proofs.Common.{ℕ, subst, sym}
use Rattle.record_log.specs.Frames.{text_of, IsAt}
use Rattle.record_log.specs.Seats.{IsSpanOf}
use Rattle.record_log.specs.Log.{frames_in}
use Rattle.blob_pool.specs.Laws.{blob_at}
use Rattle.blob_pool.proofs.pool.Pool.span.Goals as goal

pub returns : goal.returns
returns g c told =
    let log = c.args.log.now in
    let (e, x) = blob_at c.args.self.now log c.args.id.number c.requires.pool told c.requires.inside in
    let at = subst (λ (n : ℕ). IsAt (frames_in log) n e) (sym (c.frame.ensures.place told)) x.at in
    subst (IsSpanOf (text_of (frames_in log)) c.value_span.result) x.value (c.value_span.ensures told e at)
