use Rattle.std.proofs.Common.{inl}
use Rattle.std.proofs.lemmas.Result.{err_from_is_err_and}
use Rattle.run_board.proofs.PageFacts.{tears-back}
use Rattle.run_board.proofs.showing.show_settled.Goals as goal

pub returns-in_err-show_one-clause-torn : goal.returns-in_err-show_one-clause-torn
returns-in_err-show_one-clause-torn g c told =
    let inv = c.settled.invariant in
    let p = err_from_is_err_and c.from_residual.result c.from_residual.ensures.1 in
    rw (p.1, p.2) (λ now. tears-back c.args.plan.now now c.args.board.now c.settled.board inv.core
    inv.reports _ (g.K.Sink.written c.args.out.now) (g.K.Sink.written c.settled.out)
    (g.K.Sink.written c.show_one.new.out) (inv.stands now) (inv.page told now) (inl inv.settled)
    (c.in_err-show_one.ensures.torn told now))
