use Rattle.std.proofs.Common.{◌+◌, ◌-◌, ◌^◌, ◌∙◌, ap}
use Rattle.std.specs.Prelude.{min}
use Rattle.rel_path.specs.declared.span.Span.{Span}
use Rattle.pair_reader.proofs.Going.{counts_next, counts_all}
use Rattle.pair_reader.proofs.walk.length.Goals as goal

pub loop-piece-preserved : goal.loop-piece-preserved
loop-piece-preserved c text contents shows =
    counts_next text contents c.args.pieces.now c.loop-piece.piece-index _ c.loop-piece.len _ c.loop-piece-test.true (c.loop-piece.invariant text contents shows)
    (c.saturating_add-len.ensures ∙ ap (λ (s : Span). min (c.loop-piece.len + s.len) (2 ^ 64 - 1)) c.place.ensures)

pub returns : goal.returns
returns c text contents shows =
    counts_all text contents c.args.pieces.now c.loop-piece.piece-index c.loop-piece.len c.loop-piece-test.false (c.loop-piece.invariant text contents shows)
