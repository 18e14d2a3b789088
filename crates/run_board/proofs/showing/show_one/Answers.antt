use Rattle.std.proofs.lemmas.Result.{err_from_is_err_and}
use Rattle.run_board.proofs.PageFacts.{stands-on, page-on, tears-next, no-device}
use Rattle.run_board.proofs.showing.show_one.Goals as goal

pub returns-clause-stands : goal.returns-clause-stands
returns-clause-stands g c now =
    let turned = c.turn_page.ensures in
    stands-on c.args.plan.now c.story_law.ensures c.args.board.now c.turn_page.new.self turned.core
    turned.reports turned.logs turned.shown now

pub returns-clause-page : goal.returns-clause-page
returns-clause-page g c told now =
    let turned = c.turn_page.ensures in
    page-on c.args.plan.now c.story_law.ensures c.args.board.now c.turn_page.new.self turned.core
    turned.reports turned.logs turned.shown now (g.K.Sink.written c.args.out.now)
    (g.K.Sink.written c.put_block.new.out) (c.in_ok-put_block.ensures.put told)

pub returns-in_err-put_block-clause-torn : goal.returns-in_err-put_block-clause-torn
returns-in_err-put_block-clause-torn g c told =
    let p = err_from_is_err_and c.from_residual.result c.from_residual.ensures.1 in
    rw (p.1, p.2) (λ now. tears-next c.args.plan.now c.story_law.ensures c.args.board.now now
    c.requires.next _ (no-device _ _ _ c.in_err-put_block.ensures.cause _)
    (g.K.Sink.written c.args.out.now) (g.K.Sink.written c.put_block.new.out)
    (c.in_err-put_block.ensures.torn told))
