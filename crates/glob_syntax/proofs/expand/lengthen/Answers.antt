use Rattle.std.proofs.Common.{◌≡◌, ◌∷◌, [], sym, ◌∙◌, arith}
use Rattle.std.proofs.lemmas.Grind.{common_steps}
use Rattle.glob_syntax.proofs.Pieces.{each_then-one}
use Rattle.glob_syntax.proofs.expand.lengthen.Goals as goal

pub returns-in_ok-append_to_each-in-len1 : goal.returns-in_ok-append_to_each-in-len1
returns-in_ok-append_to_each-in-len1 c =
    let one : c.args.parts.now ≡ c.part-item.result ∷ [] = grind (arith, common_steps) in
    rw one (c.in_ok-append_to_each-in-len1.ensures ∙ sym (each_then-one c.args.lines.now.items c.part-item.result))
