use Rattle.std.proofs.Common.{◌≡◌, [], length, sym, ◌∙◌, arith}
use Rattle.std.proofs.lemmas.Grind.{common_steps}
use Rattle.std.proofs.lemmas.List.{take_all}
use Rattle.page.proofs.Lines.{first_line, last_line}
use Rattle.page.proofs.blocks.cut_line.Goals as goal

pub returns-in-Some-clause-lines : goal.returns-in-Some-clause-lines
returns-in-Some-clause-lines c = first_line c.args.log.now c.in-Some.end (sym c.newline_at.ensures ∙ c.in-Some.is)

pub returns-in-None-clause-lines : goal.returns-in-None-clause-lines
returns-in-None-clause-lines c =
    let none : c.split_at.result.1.now ≡ [] = grind (arith, common_steps, c.split_at.ensures.back) in
    let all : c.split_at.result.0.now ≡ c.args.log.now = c.split_at.ensures.front ∙ take_all (length c.args.log.now) c.args.log.now (omega arith) in
    rw all (last_line c.args.log.now c.split_at.result.1.now c.requires (sym c.newline_at.ensures ∙ c.in-None.is) none)
