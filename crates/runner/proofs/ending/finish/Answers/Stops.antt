-- What a run leaves in the cache when a command ends, and how it stops there.
use Rattle.std.proofs.Common.{◌∙◌, ap, refl, arith}
use Rattle.std.proofs.lemmas.Result.{err_from_is_err_and}
use Rattle.run_core.specs.Core.{states}
use Rattle.run_core.specs.Machine.{is_done}
use Rattle.run_board.specs.Progress.{now_of}
use Rattle.runner.proofs.CacheFacts.{safe-none}
use Rattle.runner.proofs.EndFacts.{first-put, no-output, safe-end, safe-ended}
use Rattle.runner.proofs.FileFacts.{undone-over}
use Rattle.runner.proofs.FinishFacts.{end-running, end-undone, ends-now}
use Rattle.runner.proofs.GoesFacts.{safe-steps}
use Rattle.runner.proofs.HaltFacts.{halts-early, halts-ended, lived}
use Rattle.runner.proofs.ending.finish.Goals as goal

pub returns-in_err-ended-clause-halts : goal.returns-in_err-ended-clause-halts
returns-in_err-ended-clause-halts g c told store =
    let plan = c.args.plan.now in
    let board = c.args.board.now in
    let old = g.W.Spawner.runs c.args.world.now in
    let new = g.W.Spawner.runs c.wait.new.world in
    let tree = g.W.Tree.state c.args.world.now in
    let after = g.W.Tree.state c.wait.new.world in
    let cache = g.C.Cache.state c.args.cache.now in
    let wait = c.in_err-ended.ensures in
    let running = end-running plan c.requires.plan board old new tree after c.requires.steps
    wait.failed.0 wait.failed.1 in
    let p = err_from_is_err_and c.from_residual.result c.from_residual.ensures.1 in
    rw (p.1, p.2) (halts-early plan c.halt_law.ensures board g.W.Spawner.effect old tree cache.pairs
    cache.lasting cache.room c.requires.steps new after.files cache.pairs cache.lasting cache.room _
    (lived old new wait.failed.0 wait.failed.1.at) wait.unsaid wait.others
    (undone-over plan (states board.core) old new wait.failed.0 tree.files after.files
    c.requires.steps.ours (ap is_done running) wait.failed.1) refl (omega arith) (omega arith))

pub returns-in_err-ended-clause-left : goal.returns-in_err-ended-clause-left
returns-in_err-ended-clause-left g c told store o stands =
    let plan = c.args.plan.now in
    let cache = g.C.Cache.state c.args.cache.now in
    safe-none g.C.Cache.state g.C.Cache.moment g.C.Cache.left g.C.Cache.says plan o
    (g.W.Spawner.runs c.wait.new.world).steps c.args.cache.now
    (λ image left. g.met.C.Cache.at_rest c.args.cache.now image store c.requires.whole left)
    (λ pairs first. safe-steps plan o cache.room (g.W.Spawner.runs c.args.world.now).steps
    (g.W.Spawner.runs c.wait.new.world).steps pairs c.in_err-ended.ensures.unsaid
    (c.halt_law.ensures.safe plan o _ pairs stands first))

pub returns-in_err-report-clause-left : goal.returns-in_err-report-clause-left
returns-in_err-report-clause-left g c told store o stands =
    let plan = c.args.plan.now in
    let board = c.args.board.now in
    let old = g.W.Spawner.runs c.args.world.now in
    let tree = g.W.Tree.state c.args.world.now in
    let files = (g.W.Tree.state c.wait.new.world).files in
    let cache = g.C.Cache.state c.args.cache.now in
    let steps = (g.W.Spawner.runs c.report_end.new.world).steps in
    let ended = c.in_ok-ended.ended in
    let ends = c.in_ok-ended.ensures.ends told in
    let settle = c.in_err-report.ensures in
    let sound = c.sound-sound.result in
    let ends_now = ends-now plan c.requires.plan board c.requires.board g.W.Spawner.effect old
    (g.W.Spawner.runs c.wait.new.world) tree files cache.pairs cache.lasting cache.room
    c.requires.steps ended sound c.requires.calm c.in_ok-ended.ensures.over ends c.sound-sound.ensures in
    safe-ended g.C.Cache.state g.C.Cache.moment g.C.Cache.left g.C.Cache.says plan o steps
    c.args.cache.now c.report_end.new.cache ended sound files (settle.left told store)
    (λ added pairs may first. safe-end plan (now_of board g.W.Spawner.effect old tree cache) ended sound files
    ends.files c.halt_law.ensures o (g.C.Cache.state c.report_end.new.cache).room steps added pairs
    stands c.requires.calm ends_now settle.cache.keeps.room
    (ap (λ w. w.steps) settle.runs ∙ ends.steps) may first)

pub returns-in_err-report-clause-halts : goal.returns-in_err-report-clause-halts
returns-in_err-report-clause-halts g c told store =
    let plan = c.args.plan.now in
    let board = c.args.board.now in
    let old = g.W.Spawner.runs c.args.world.now in
    let mid = g.W.Spawner.runs c.wait.new.world in
    let tree = g.W.Tree.state c.args.world.now in
    let after = g.W.Tree.state c.wait.new.world in
    let last = (g.W.Tree.state c.report_end.new.world).files in
    let cache = g.C.Cache.state c.args.cache.now in
    let new = g.C.Cache.state c.report_end.new.cache in
    let now = now_of board g.W.Spawner.effect old tree cache in
    let ended = c.in_ok-ended.ended in
    let wait = c.in_ok-ended.ensures in
    let ends = wait.ends told in
    let settle = c.in_err-report.ensures in
    let sound = c.sound-sound.result in
    let ends_now = ends-now plan c.requires.plan board c.requires.board g.W.Spawner.effect old mid
    tree after.files cache.pairs cache.lasting cache.room c.requires.steps ended sound
    c.requires.calm wait.over ends c.sound-sound.ensures in
    let p = err_from_is_err_and c.from_residual-in_err-report.result
    c.from_residual-in_err-report.ensures.1 in
    let failed = first-put plan now ended sound after.files ends.files cache.lasting new.pairs
    (settle.failed told store) in
    rw (p.1, p.2, settle.runs) (halts-ended plan c.halt_law.ensures board g.W.Spawner.effect old tree
    cache.pairs cache.lasting cache.room c.requires.steps mid last failed.0 new.pairs cache.lasting
    new.lasting new.room _ ended sound c.requires.calm ends_now wait.over.at ends.steps wait.others
    (end-undone plan c.requires.plan board old mid tree after c.requires.steps ended.place wait.over
    last (settle.others told))
    failed.1 (omega arith) (g.met.C.Cache.within c.args.cache.now store) failed.2
    (settle.cache.lasts store).lasting
    (λ kept. absurd (no-output _ _ _ _ _ _ _ settle.cause kept.output)) settle.cache.keeps.room)

pub returns-clause-left : goal.returns-clause-left
returns-clause-left g c told store o stands =
    let plan = c.args.plan.now in
    let board = c.args.board.now in
    let old = g.W.Spawner.runs c.args.world.now in
    let tree = g.W.Tree.state c.args.world.now in
    let files = (g.W.Tree.state c.wait.new.world).files in
    let cache = g.C.Cache.state c.args.cache.now in
    let steps = (g.W.Spawner.runs c.report_end.new.world).steps in
    let ended = c.in_ok-ended.ended in
    let ends = c.in_ok-ended.ensures.ends told in
    let settle = c.in_ok-report.ensures in
    let sound = c.sound-sound.result in
    let ends_now = ends-now plan c.requires.plan board c.requires.board g.W.Spawner.effect old
    (g.W.Spawner.runs c.wait.new.world) tree files cache.pairs cache.lasting cache.room
    c.requires.steps ended sound c.requires.calm c.in_ok-ended.ensures.over ends c.sound-sound.ensures in
    safe-ended g.C.Cache.state g.C.Cache.moment g.C.Cache.left g.C.Cache.says plan o steps
    c.args.cache.now c.report_end.new.cache ended sound files (settle.left told store)
    (λ added pairs may first. safe-end plan (now_of board g.W.Spawner.effect old tree cache) ended sound files
    ends.files c.halt_law.ensures o (g.C.Cache.state c.report_end.new.cache).room steps added pairs
    stands c.requires.calm ends_now settle.cache.keeps.room
    (ap (λ w. w.steps) settle.runs ∙ ends.steps) may first)
