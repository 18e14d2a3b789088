use Rattle.std.proofs.Common.{◌++◌, map, take, sym, ◌∙◌, ap, arith}
use Rattle.rel_path.proofs.Parts.{turn}
use Rattle.glob_syntax.proofs.Pieces.{each_then-push}
use Rattle.glob_syntax.proofs.expand.each_then.Goals as goal

pub loop-line-preserved : goal.loop-line-preserved
loop-line-preserved c =
    let step = turn c.args.lines.now c.loop-line.line-index c.line-item.result (omega arith, c.line-item.is) in
    rw (step.0) (c.in_ok-push_each.ensures ∙ ap (λ before. before ++ map (λ part. c.line-item.result ++ part) c.args.parts.now) c.loop-line.invariant ∙ sym (each_then-push (take c.loop-line.line-index c.args.lines.now) c.line-item.result c.args.parts.now))
