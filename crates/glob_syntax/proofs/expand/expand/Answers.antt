use Rattle.std.proofs.Common.{◌≡◌, ◌∷◌, [], sym, ◌∙◌, arith, drop}
use Rattle.std.proofs.lemmas.Grind.{common_steps}
use Rattle.rel_path.proofs.Parts.{turn}
use Rattle.glob_syntax.specs.Pieces.{alternatives_of}
use Rattle.glob_syntax.proofs.Pieces.{each_then-nothing, nothing-each_then, each_then-assoc}
use Rattle.glob_syntax.proofs.expand.expand.Goals as goal

pub loop-piece-init : goal.loop-piece-init
loop-piece-init c =
    let pushed : c.push.new.self.items ≡ [] ∷ [] = grind (arith, common_steps) in
    rw pushed (sym (each_then-nothing (alternatives_of c.args.pieces.now)))

pub loop-piece-preserved : goal.loop-piece-preserved
loop-piece-preserved c =
    let step = turn c.args.pieces.now c.loop-piece.piece-index c.piece-item.result (omega arith, c.piece-item.is) in
    let before = rw step.1 at c.loop-piece.invariant in
    rw (c.in_ok-lengthen.ensures, c.parts.ensures) (before ∙ sym (each_then-assoc c.loop-piece.lines.items c.piece-item.result _))

pub returns : goal.returns
returns c =
    let all : drop c.loop-piece.piece-index c.args.pieces.now ≡ [] = grind (arith, common_steps) in
    sym (c.loop-piece.invariant ∙ rw all (nothing-each_then c.loop-piece.lines.items))
