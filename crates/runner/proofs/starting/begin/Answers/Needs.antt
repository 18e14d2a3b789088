-- What starting a command needs.
use Rattle.std.proofs.Common.{◌∙◌, ap}
use Rattle.run_core.specs.Core.{states}
use Rattle.run_core.specs.Machine.{runs}
use Rattle.runner.specs.Running.{is_begun}
use Rattle.run_board.proofs.TurnFacts.{board-missed}
use Rattle.runner.proofs.HeldFacts.{free-of, is-fresh, is-clear, reads-free, owns-nothing}
use Rattle.runner.proofs.WorldFacts.{step-same}
use Rattle.runner.proofs.starting.begin.Goals as goal

pub clear_owned-requires-clause-free : goal.clear_owned-requires-clause-free
clear_owned-requires-clause-free g c =
    let plan = c.args.plan.now in
    let t = c.args.place in
    let st = states c.args.board.now.core in
    let missed = (board-missed plan c.args.board.now c.requires.board t c.requires.next).1 in
    free-of plan c.requires.plan st (g.W.Spawner.runs c.args.world.now) c.requires.steps.ours
    (g.W.Tree.state c.args.world.now).held (g.met.W.Spawner.held_by_running c.args.world.now) t
    (c.requires.steps.scripts t (ap is_begun missed)) (c.requires.steps.live_is t ∙ ap runs missed)

pub start-requires-clause-fresh : goal.start-requires-clause-fresh
start-requires-clause-fresh g c =
    let plan = c.args.plan.now in
    let st = states c.args.board.now.core in
    let m = board-missed plan c.args.board.now c.requires.board c.args.place c.requires.next in
    let mid = g.W.Spawner.runs c.clear_owned.new.world in
    let step = step-same plan c.requires.plan st (g.W.Spawner.runs c.args.world.now) mid
    c.in_ok-clear_owned.ensures.runs c.requires.steps in
    is-fresh plan c.requires.plan st c.closure_is_valid.ensures.ordered c.requires.calm mid step
    c.args.place m.0 m.1 c.in_ok-command.command c.in_ok-command.ensures.command

pub start-requires-clause-absent : goal.start-requires-clause-absent
start-requires-clause-absent g c told =
    let plan = c.args.plan.now in
    let st = states c.args.board.now.core in
    let m = board-missed plan c.args.board.now c.requires.board c.args.place c.requires.next in
    let mid = g.W.Spawner.runs c.clear_owned.new.world in
    let step = step-same plan c.requires.plan st (g.W.Spawner.runs c.args.world.now) mid
    c.in_ok-clear_owned.ensures.runs c.requires.steps in
    owns-nothing plan c.requires.plan st c.closure_is_valid.ensures.ordered c.requires.calm mid step
    c.args.place m.0 m.1 c.in_ok-command.command c.in_ok-command.ensures.command
    (g.W.Tree.state c.args.world.now).files (g.W.Tree.state c.clear_owned.new.world).files
    (c.in_ok-clear_owned.ensures.cleared told)

pub start-requires-clause-clear : goal.start-requires-clause-clear
start-requires-clause-clear g c =
    let plan = c.args.plan.now in
    let st = states c.args.board.now.core in
    let m = board-missed plan c.args.board.now c.requires.board c.args.place c.requires.next in
    let mid = g.W.Spawner.runs c.clear_owned.new.world in
    let step = step-same plan c.requires.plan st (g.W.Spawner.runs c.args.world.now) mid
    c.in_ok-clear_owned.ensures.runs c.requires.steps in
    is-clear plan c.requires.plan st c.closure_is_valid.ensures.ordered c.requires.calm mid step
    c.args.place m.0 m.1 c.in_ok-command.command c.in_ok-command.ensures.command

pub start-requires-clause-reads : goal.start-requires-clause-reads
start-requires-clause-reads g c =
    let plan = c.args.plan.now in
    let st = states c.args.board.now.core in
    let m = board-missed plan c.args.board.now c.requires.board c.args.place c.requires.next in
    let mid = g.W.Spawner.runs c.clear_owned.new.world in
    let step = step-same plan c.requires.plan st (g.W.Spawner.runs c.args.world.now) mid
    c.in_ok-clear_owned.ensures.runs c.requires.steps in
    reads-free plan c.requires.plan st c.closure_is_valid.ensures.ordered c.requires.calm mid step
    c.args.place m.0 m.1 c.in_ok-command.command c.in_ok-command.ensures.command
    (g.W.Tree.state c.clear_owned.new.world).held
    (g.met.W.Spawner.held_by_running c.clear_owned.new.world)
