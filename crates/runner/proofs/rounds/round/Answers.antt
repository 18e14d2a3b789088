use Rattle.std.proofs.Common.{sym, refl, subst, arith, inl}
use Rattle.std.proofs.lemmas.Result.{err_from_is_err_and}
use Rattle.run_core.specs.Core.{states}
use Rattle.run_plan.specs.Answers.{IsPrompt}
use Rattle.runner.specs.Costs.{Spends}
use Rattle.run_board.specs.Progress.{now_of}
use Rattle.runner.specs.Running.{InStep}
use Rattle.runner.proofs.FileFacts.{undone-same}
use Rattle.runner.proofs.HaltFacts.{halts-here}
use Rattle.run_board.proofs.PageFacts.{if-device, tears-here}
use Rattle.runner.proofs.RoundFacts.{page-kept, round-is, turn-board, turn-keeps, turn-settled}
use Rattle.runner.proofs.rounds.round.Goals as goal

pub returns-in_err-more-clause-stops : goal.returns-in_err-more-clause-stops
returns-in_err-more-clause-stops g c told store =
    let plan = c.args.plan.now in
    let board = c.args.board.now in
    let first = now_of board g.W.Spawner.effect (g.W.Spawner.runs c.args.world.now)
    (g.W.Tree.state c.args.world.now) (g.C.Cache.state c.args.cache.now) in
    let written = g.K.Sink.written c.args.out.now in
    let current = c.requires.current in
    let p = err_from_is_err_and c.from_residual.result c.from_residual.ensures.1 in
    rw (p.1, p.2) (λ o before stands page. record {
      now = first;
      stands = stands;
      halts = c.in_err-more.ensures.halts told store o stands;
      page_is = λ heard. tears-here plan c.story_law.ensures board first current.is_board.shown _
          (if-device _ (IsPrompt plan (states board.core) board.shown) current.prompt)
          written written refl o before stands (page heard) (inl current.settled);
    })

pub show_settled-requires-clause-board : goal.show_settled-requires-clause-board
show_settled-requires-clause-board g c =
    turn-board c.args.plan.now c.args.board.now c.turn.new.board c.in_ok-more.more
    c.requires.current.is_board c.in_ok-more.ensures.turned

pub show_settled-requires-clause-settled : goal.show_settled-requires-clause-settled
show_settled-requires-clause-settled g c =
    turn-settled c.args.plan.now c.args.board.now c.turn.new.board c.in_ok-more.more
    c.requires.current.settled c.in_ok-more.ensures.turned

pub returns-in_err-show_settled-clause-stops : goal.returns-in_err-show_settled-clause-stops
returns-in_err-show_settled-clause-stops g c told store =
    let plan = c.args.plan.now in
    let old = c.args.board.now in
    let board = c.turn.new.board in
    let first = now_of old g.W.Spawner.effect (g.W.Spawner.runs c.args.world.now)
    (g.W.Tree.state c.args.world.now) (g.C.Cache.state c.args.cache.now) in
    let world = g.W.Spawner.runs c.turn.new.world in
    let tree = g.W.Tree.state c.turn.new.world in
    let cache = g.C.Cache.state c.turn.new.cache in
    let mid = now_of board g.W.Spawner.effect world tree cache in
    let turn = c.in_ok-more.ensures in
    let settled = turn-settled plan old board c.in_ok-more.more c.requires.current.settled turn.turned
    in
    let keeps = turn-keeps plan old board c.in_ok-more.more turn.turned in
    let p = err_from_is_err_and c.from_residual-in_err-show_settled.result
    c.from_residual-in_err-show_settled.ensures.1 in
    rw (p.1, p.2) (λ o before stands page. record {
      now = mid;
      stands = turn.stands told store o stands;
      halts = halts-here plan c.halt_law.ensures board g.W.Spawner.effect world tree cache.pairs
          cache.lasting cache.room turn.steps world tree.files cache.pairs cache.lasting cache.room _
          refl (undone-same plan (states board.core) tree.files tree.files refl) refl (omega arith)
          (omega arith) o
          (turn.stands told store o stands);
      page_is = λ heard. c.in_err-show_settled.ensures.torn heard mid o before
          (turn.stands told store o stands)
          (page-kept plan c.story_law.ensures o old board first mid keeps c.requires.current.settled
          before (g.K.Sink.written c.args.out.now) (page heard)) (inl settled);
    })

pub returns-clause-round : goal.returns-clause-round
returns-clause-round g c =
    round-is c.args.plan.now c.args.board.now c.turn.new.board c.show_settled.new.board
    c.in_ok-more.more c.in_ok-more.ensures.turned c.in_ok-show_settled.ensures.core
    c.in_ok-show_settled.ensures.current

pub returns-clause-steps : goal.returns-clause-steps
returns-clause-steps g c =
    subst (λ core. InStep c.args.plan.now (states core) (g.W.Spawner.runs c.turn.new.world))
    (sym c.in_ok-show_settled.ensures.core) c.in_ok-more.ensures.steps

pub returns-clause-stands : goal.returns-clause-stands
returns-clause-stands g c told store o stands =
    let mid = now_of c.turn.new.board g.W.Spawner.effect (g.W.Spawner.runs c.turn.new.world)
    (g.W.Tree.state c.turn.new.world) (g.C.Cache.state c.turn.new.cache) in
    c.in_ok-show_settled.ensures.stands mid o (c.in_ok-more.ensures.stands told store o stands)

pub returns-clause-page : goal.returns-clause-page
returns-clause-page g c told store heard o before stands page =
    let plan = c.args.plan.now in
    let old = c.args.board.now in
    let board = c.turn.new.board in
    let first = now_of old g.W.Spawner.effect (g.W.Spawner.runs c.args.world.now)
    (g.W.Tree.state c.args.world.now) (g.C.Cache.state c.args.cache.now) in
    let mid = now_of board g.W.Spawner.effect (g.W.Spawner.runs c.turn.new.world)
    (g.W.Tree.state c.turn.new.world) (g.C.Cache.state c.turn.new.cache) in
    let keeps = turn-keeps plan old board c.in_ok-more.more c.in_ok-more.ensures.turned in
    c.in_ok-show_settled.ensures.page heard mid o before
    (c.in_ok-more.ensures.stands told store o stands)
    (page-kept plan c.story_law.ensures o old board first mid keeps c.requires.current.settled before
    (g.K.Sink.written c.args.out.now) page)

pub returns-clause-spends : goal.returns-clause-spends
returns-clause-spends g c told store same last =
    subst (λ core. Spends c.args.plan.now g.C.Cache.state g.C.Cache.cost
    (states c.args.board.now.core) (states core) c.args.cache.now c.turn.new.cache)
    (sym c.in_ok-show_settled.ensures.core) (c.in_ok-more.ensures.spends told store same last)
