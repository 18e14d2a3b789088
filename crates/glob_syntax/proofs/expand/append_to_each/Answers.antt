use Rattle.std.proofs.Common.{◌++◌, ◌<◌, List, length, arith}
use Rattle.std.proofs.lemmas.List.Edits.{map_over_more}
use Rattle.std.proofs.lemmas.Grind.{common_steps}
use Rattle.glob_syntax.specs.declared.token.Token.{Token}
use Rattle.glob_syntax.proofs.expand.append_to_each.Goals as goal

pub loop-line-preserved : goal.loop-line-preserved
loop-line-preserved c =
    let below : c.loop-line.line-index < length c.args.lines.now.items = grind (arith, common_steps) in
    rw (c.in_ok-append.ensures, ← c.line-item.is) (map_over_more (λ (line : List Token). line ++ c.args.part.now) c.args.lines.now.items c.loop-line.line-items c.loop-line.line-index c.line-item.result below c.loop-line.invariant c.line-item.is)
