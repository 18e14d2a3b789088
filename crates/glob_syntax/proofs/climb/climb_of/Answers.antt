use Rattle.std.proofs.Common.{◌≡◌, ◌∙◌, sym, arith, drop}
use Rattle.glob_syntax.specs.Pieces.{alternatives_of}
use Rattle.glob_syntax.proofs.Outlook.{drop_before, outlook-piece, outlook-begins}
use Rattle.glob_syntax.proofs.climb.climb_of.Goals as goal

pub loop-left-preserved : goal.loop-left-preserved
loop-left-preserved c =
    let piece = c.index-pieces-left.result in
    let behind = drop c.loop-left.left c.args.pieces.now in
    let step = drop_before c.args.pieces.now c.loop-left.left piece (omega arith) (omega arith) c.index-pieces-left.is in
    (omega arith, rw step (c.before_parts-outlook.ensures ∙ rw (c.parts.ensures, c.loop-left.invariant.1) (sym (outlook-piece piece behind))))

pub returns : goal.returns
returns c =
    let none : c.loop-left.left ≡ 0 = omega arith in
    let all = rw none at c.loop-left.invariant.1 in
    rw all (outlook-begins (alternatives_of c.args.pieces.now))
