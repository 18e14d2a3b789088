use Rattle.std.proofs.Common.{◌≤◌, length, refl, ◌∙◌, arith, inr}
use Rattle.std.proofs.lemmas.Result.{err_from_is_err_and}
use Rattle.run_core.specs.Core.{states}
use Rattle.run_plan.specs.Answers.{IsInTurn}
use Rattle.run_plan.specs.Answers.Cause.{Memory}
use Rattle.run_board.proofs.PageFacts.{cut-as, tears-back, tears-here, tears-last}
use Rattle.run_board.proofs.showing.conclude.Goals as goal

pub returns-in_err-summary-clause-torn : goal.returns-in_err-summary-clause-torn
returns-in_err-summary-clause-torn g c told =
    let first = c.args.board.now in
    let board = c.show_rest.new.board in
    let rest = c.in_ok-show_rest.ensures in
    let written = g.K.Sink.written c.show_rest.new.out in
    let le : board.shown ≤ length c.args.plan.now.listing.parts = omega (arith, rest.shown) in
    let over : IsInTurn c.args.plan.now (states board.core) board.shown =
    inr (rw rest.core c.requires.over) in
    let p = err_from_is_err_and c.from_residual-in_err-summary.result
    c.from_residual-in_err-summary.ensures.1 in
    rw (p.1, p.2) (λ now. tears-back c.args.plan.now now first board rest.core rest.reports _
    (g.K.Sink.written c.args.out.now) written written (rest.stands now) (rest.page told now) over
    (tears-here c.args.plan.now c.story_law.ensures board now le Memory tt
    written written refl))

pub returns-in_err-put_text-clause-torn : goal.returns-in_err-put_text-clause-torn
returns-in_err-put_text-clause-torn g c told =
    let first = c.args.board.now in
    let board = c.show_rest.new.board in
    let rest = c.in_ok-show_rest.ensures in
    let written = g.K.Sink.written c.show_rest.new.out in
    let after = g.K.Sink.written c.put_text.new.out in
    let cut = cut-as _ _ _ _ written written after refl
    (c.as_slice.ensures ∙ c.in_ok-summary.ensures.text) refl (c.in_err-put_text.ensures.torn told) in
    let over : IsInTurn c.args.plan.now (states board.core) board.shown =
    inr (rw rest.core c.requires.over) in
    let p = err_from_is_err_and c.from_residual-in_err-put_text.result
    c.from_residual-in_err-put_text.ensures.1 in
    rw (p.1, p.2) (λ now. tears-back c.args.plan.now now first board rest.core rest.reports _
    (g.K.Sink.written c.args.out.now) written after (rest.stands now) (rest.page told now) over
    (tears-last c.args.plan.now c.story_law.ensures board now rest.shown _ written after cut))

pub returns-in_err-show_rest-clause-torn : goal.returns-in_err-show_rest-clause-torn
returns-in_err-show_rest-clause-torn g c told =
    let p = err_from_is_err_and c.from_residual.result c.from_residual.ensures.1 in
    rw (p.1, p.2) (c.in_err-show_rest.ensures.torn told)
