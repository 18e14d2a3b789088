use Rattle.std.proofs.Common.{inr}
use Rattle.std.proofs.lemmas.Result.{err_from_is_err_and}
use Rattle.run_board.proofs.PageFacts.{tears-back}
use Rattle.run_board.proofs.showing.show_rest.Goals as goal

pub returns-in_err-show_one-clause-torn : goal.returns-in_err-show_one-clause-torn
returns-in_err-show_one-clause-torn g c told =
    let inv = c.rest.invariant in
    let p = err_from_is_err_and c.from_residual.result c.from_residual.ensures.1 in
    rw (p.1, p.2) (λ now. tears-back c.args.plan.now now c.args.board.now c.rest.board inv.core
    inv.reports _ (g.K.Sink.written c.args.out.now) (g.K.Sink.written c.rest.out)
    (g.K.Sink.written c.show_one.new.out) (inv.stands now) (inv.page told now)
    (inr (rw inv.core c.requires.over)) (c.in_err-show_one.ensures.torn told now))
