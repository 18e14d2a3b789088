use Rattle.std.proofs.Common.{◌∙◌, ap, sym, refl, subst, arith}
use Rattle.std.proofs.lemmas.Result.{err_from_is_err_and}
use Rattle.run_core.specs.Core.{rules, states}
use Rattle.run_core.specs.Machine.{next}
use Rattle.run_plan.specs.StoryLaws.{Stands}
use Rattle.run_board.specs.Progress.{now_of}
use Rattle.run_board.proofs.AheadFacts.{move-ahead}
use Rattle.runner.specs.Answers.{NoneLost}
use Rattle.runner.specs.Costs.{Spends, SpendsAtMost}
use Rattle.runner.specs.Halting.{HaltsFrom}
use Rattle.runner.proofs.AskFacts.{err-more, now-ahead, ok-more}
use Rattle.runner.proofs.CacheFacts.{cache-then, safe-part, safe-then}
use Rattle.runner.proofs.DueFacts.{due-goes, due-last, due-spends, due-spent, due-stands}
use Rattle.runner.proofs.FileFacts.{elsewhere-same}
use Rattle.runner.proofs.GoesFacts.{safe-less, world-same}
use Rattle.runner.proofs.HaltFacts.{halts-behind-due, halts-due}
use Rattle.runner.proofs.ending.wait_first.Goals as goal

pub returns-in_err-settle_before_wait-clause-world : goal.returns-in_err-settle_before_wait-clause-world
returns-in_err-settle_before_wait-clause-world g c =
    let settle = c.in_err-settle_before_wait.ensures in
    world-same g.W.Tree.tells c.args.plan.now (g.W.Spawner.runs c.args.world.now)
    (g.W.Spawner.runs c.settle_before_wait.new.world) (g.W.Tree.state c.args.world.now)
    (g.W.Tree.state c.settle_before_wait.new.world) settle.runs c.requires.steps.ours
    (λ told. elsewhere-same c.args.plan.now _ _ (ap (λ t. t.files) settle.tree))

pub returns-in_err-settle_before_wait-clause-cache : goal.returns-in_err-settle_before_wait-clause-cache
returns-in_err-settle_before_wait-clause-cache g c =
    due-goes g.C.Cache.tells g.C.Cache.state g.C.Cache.cost g.C.Cache.moment g.C.Cache.left
    g.C.Cache.says c.args.cache.now
    c.settle_before_wait.new.cache c.in_err-settle_before_wait.ensures.due
    (λ told. g.met.C.Cache.within c.args.cache.now told)

pub returns-in_err-settle_before_wait-clause-halts : goal.returns-in_err-settle_before_wait-clause-halts
returns-in_err-settle_before_wait-clause-halts g c told store =
    let cache = g.C.Cache.state c.args.cache.now in
    let new = g.C.Cache.state c.settle_before_wait.new.cache in
    let settle = c.in_err-settle_before_wait.ensures in
    let due = settle.due in
    let p = err_from_is_err_and c.from_residual.result c.from_residual.ensures.1 in
    rw (p.1, p.2, settle.runs, settle.tree) (halts-due c.args.plan.now c.halt_law.ensures
    c.args.board.now g.W.Spawner.effect (g.W.Spawner.runs c.args.world.now)
    (g.W.Tree.state c.args.world.now) cache.pairs cache.lasting cache.room c.requires.steps new.pairs
    new.lasting new.room _ _ (due.first store) (due.same store) (λ kept failed. kept.calm failed)
    (due.lasting store) due.keeps.room)

pub returns-in_err-settle_before_wait-clause-left : goal.returns-in_err-settle_before_wait-clause-left
returns-in_err-settle_before_wait-clause-left g c told store o stands =
    let plan = c.args.plan.now in
    let cache = g.C.Cache.state c.args.cache.now in
    let new = g.C.Cache.state c.settle_before_wait.new.cache in
    let steps = (g.W.Spawner.runs c.settle_before_wait.new.world).steps in
    let settle = c.in_err-settle_before_wait.ensures in
    safe-part g.C.Cache.state g.C.Cache.moment g.C.Cache.left g.C.Cache.says plan o steps
    c.args.cache.now c.settle_before_wait.new.cache (settle.due.images store)
    (λ pairs first. safe-less c.halt_law.ensures plan o cache.room new.room
    (g.W.Spawner.runs c.args.world.now).steps steps pairs settle.due.keeps.room
    (ap (λ w. w.steps) settle.runs) (c.halt_law.ensures.safe plan o _ pairs stands first))

pub returns-in_err-settle_before_wait-clause-stays : goal.returns-in_err-settle_before_wait-clause-stays
returns-in_err-settle_before_wait-clause-stays g c told store same last =
    due-last g.C.Cache.tells g.C.Cache.state g.C.Cache.cost g.C.Cache.moment g.C.Cache.left
    g.C.Cache.says c.args.cache.now
    c.settle_before_wait.new.cache c.in_err-settle_before_wait.ensures.due store last

pub returns-in_err-settle_before_wait-clause-spent : goal.returns-in_err-settle_before_wait-clause-spent
returns-in_err-settle_before_wait-clause-spent g c told store same last =
    let same = c.in_err-settle_before_wait.ensures.due.probes store last in omega (arith, same)

-- ---- what was due was put, and no key could be hashed

pub returns-in_err-hash_while_running-clause-world : goal.returns-in_err-hash_while_running-clause-world
returns-in_err-hash_while_running-clause-world g c =
    let settle = c.in_ok-settle_before_wait.ensures in
    let hash = c.in_err-hash_while_running.ensures in
    world-same g.W.Tree.tells c.args.plan.now (g.W.Spawner.runs c.args.world.now)
    (g.W.Spawner.runs c.hash_while_running.new.world) (g.W.Tree.state c.args.world.now)
    (g.W.Tree.state c.hash_while_running.new.world) (hash.runs ∙ settle.runs) c.requires.steps.ours
    (λ told. elsewhere-same c.args.plan.now _ _ (ap (λ t. t.files) (hash.tree ∙ settle.tree)))

pub returns-in_err-hash_while_running-clause-cache : goal.returns-in_err-hash_while_running-clause-cache
returns-in_err-hash_while_running-clause-cache g c =
    due-goes g.C.Cache.tells g.C.Cache.state g.C.Cache.cost g.C.Cache.moment g.C.Cache.left
    g.C.Cache.says c.args.cache.now
    c.settle_before_wait.new.cache c.in_ok-settle_before_wait.ensures.due
    (λ told. g.met.C.Cache.within c.args.cache.now told)

pub returns-in_err-hash_while_running-clause-halts : goal.returns-in_err-hash_while_running-clause-halts
returns-in_err-hash_while_running-clause-halts g c told store =
    let cache = g.C.Cache.state c.args.cache.now in
    let new = g.C.Cache.state c.settle_before_wait.new.cache in
    let settle = c.in_ok-settle_before_wait.ensures in
    let hash = c.in_err-hash_while_running.ensures in
    let due = settle.due in
    let p = err_from_is_err_and c.from_residual-in_err-hash_while_running.result
    c.from_residual-in_err-hash_while_running.ensures.1 in
    rw (p.1, p.2, hash.runs, hash.tree, settle.runs, settle.tree) (halts-due c.args.plan.now
    c.halt_law.ensures c.args.board.now g.W.Spawner.effect (g.W.Spawner.runs c.args.world.now)
    (g.W.Tree.state c.args.world.now) cache.pairs cache.lasting cache.room c.requires.steps new.pairs
    new.lasting new.room _ _ (due.first store) (due.same store) (λ kept failed. kept.calm failed)
    (due.lasting store) due.keeps.room)

pub returns-in_err-hash_while_running-clause-left : goal.returns-in_err-hash_while_running-clause-left
returns-in_err-hash_while_running-clause-left g c told store o stands =
    let plan = c.args.plan.now in
    let cache = g.C.Cache.state c.args.cache.now in
    let new = g.C.Cache.state c.settle_before_wait.new.cache in
    let steps = (g.W.Spawner.runs c.hash_while_running.new.world).steps in
    let settle = c.in_ok-settle_before_wait.ensures in
    let hash = c.in_err-hash_while_running.ensures in
    safe-part g.C.Cache.state g.C.Cache.moment g.C.Cache.left g.C.Cache.says plan o steps
    c.args.cache.now c.settle_before_wait.new.cache (settle.due.images store)
    (λ pairs first. safe-less c.halt_law.ensures plan o cache.room new.room
    (g.W.Spawner.runs c.args.world.now).steps steps pairs settle.due.keeps.room
    (ap (λ w. w.steps) (hash.runs ∙ settle.runs))
    (c.halt_law.ensures.safe plan o _ pairs stands first))

pub returns-in_err-hash_while_running-clause-stays : goal.returns-in_err-hash_while_running-clause-stays
returns-in_err-hash_while_running-clause-stays g c told store same last =
    due-last g.C.Cache.tells g.C.Cache.state g.C.Cache.cost g.C.Cache.moment g.C.Cache.left
    g.C.Cache.says c.args.cache.now
    c.settle_before_wait.new.cache c.in_ok-settle_before_wait.ensures.due store last

pub returns-in_err-hash_while_running-clause-spent : goal.returns-in_err-hash_while_running-clause-spent
returns-in_err-hash_while_running-clause-spent g c told store same last =
    let same = c.in_ok-settle_before_wait.ensures.due.probes store last in omega (arith, same)

-- ---- keys were hashed, and the wait begins

pub finish-requires-clause-steps : goal.finish-requires-clause-steps
finish-requires-clause-steps g c =
    let settle = c.in_ok-settle_before_wait.ensures in
    let hash = c.in_ok-hash_while_running.ensures in
    rw (hash.hashed.core, hash.runs, settle.runs) c.requires.steps

pub finish-requires-clause-calm : goal.finish-requires-clause-calm
finish-requires-clause-calm g c =
    rw c.in_ok-hash_while_running.ensures.hashed.core c.requires.calm

pub finish-requires-clause-next : goal.finish-requires-clause-next
finish-requires-clause-next g c =
    ap (λ core. next (rules core) (states core)) c.in_ok-hash_while_running.ensures.hashed.core
    ∙ c.requires.next

pub returns-clause-moved : goal.returns-clause-moved
returns-clause-moved g c =
    ok-more c.finish.result (λ moved. move-ahead c.args.plan.now c.args.board.now
    c.hash_while_running.new.board c.finish.new.board c.in_ok-hash_while_running.ensures.hashed moved)
    c.finish.ensures.moved

pub returns-clause-world : goal.returns-clause-world
returns-clause-world g c =
    let settle = c.in_ok-settle_before_wait.ensures in
    let hash = c.in_ok-hash_while_running.ensures in
    rw (← settle.runs, ← settle.tree, ← hash.runs, ← hash.tree) c.finish.ensures.world

pub returns-clause-cache : goal.returns-clause-cache
returns-clause-cache g c =
    cache-then g.C.Cache.state g.C.Cache.moment g.C.Cache.left g.C.Cache.says g.C.Cache.tells
    c.args.cache.now c.settle_before_wait.new.cache c.finish.new.cache
    (due-goes g.C.Cache.tells g.C.Cache.state g.C.Cache.cost g.C.Cache.moment g.C.Cache.left
    g.C.Cache.says c.args.cache.now
    c.settle_before_wait.new.cache c.in_ok-settle_before_wait.ensures.due
    (λ told. g.met.C.Cache.within c.args.cache.now told)) c.finish.ensures.cache

pub returns-clause-stands : goal.returns-clause-stands
returns-clause-stands g c told store =
    let plan = c.args.plan.now in
    let board = c.args.board.now in
    let world = g.W.Spawner.runs c.hash_while_running.new.world in
    let tree = g.W.Tree.state c.hash_while_running.new.world in
    let cache = g.C.Cache.state c.args.cache.now in
    let mid = g.C.Cache.state c.settle_before_wait.new.cache in
    let settle = c.in_ok-settle_before_wait.ensures in
    let hash = c.in_ok-hash_while_running.ensures in
    let due = settle.due in
    let on = due-stands c.story_law.ensures plan board g.W.Spawner.effect world tree cache mid
    (due.lasting store) (due.within store) (settle.kept store) due.keeps.room in
    let same = now-ahead g.W.Spawner.effect world tree mid board c.hash_while_running.new.board
    hash.hashed in
    rw (← settle.runs, ← settle.tree, ← hash.runs, ← hash.tree) (ok-more c.finish.result
    (λ stays o stands. stays o (subst (λ now. Stands plan o now) (sym same) (on o stands)))
    (c.finish.ensures.stands told store))

pub returns-clause-halts : goal.returns-clause-halts
returns-clause-halts g c told store =
    let plan = c.args.plan.now in
    let board = c.args.board.now in
    let world = g.W.Spawner.runs c.hash_while_running.new.world in
    let tree = g.W.Tree.state c.hash_while_running.new.world in
    let cache = g.C.Cache.state c.args.cache.now in
    let mid = g.C.Cache.state c.settle_before_wait.new.cache in
    let settle = c.in_ok-settle_before_wait.ensures in
    let hash = c.in_ok-hash_while_running.ensures in
    let due = settle.due in
    let on = due-stands c.story_law.ensures plan board g.W.Spawner.effect world tree cache mid
    (due.lasting store) (due.within store) (settle.kept store) due.keeps.room in
    let same = now-ahead g.W.Spawner.effect world tree mid board c.hash_while_running.new.board
    hash.hashed in
    let last = g.C.Cache.state c.finish.new.cache in
    let new = g.W.Spawner.runs c.finish.new.world in
    let files = (g.W.Tree.state c.finish.new.world).files in
    let faults = ap (λ f. f.store) settle.cause in
    rw (← settle.runs, ← settle.tree, ← hash.runs, ← hash.tree) (err-more
    (λ e. HaltsFrom plan (now_of c.hash_while_running.new.board g.W.Spawner.effect world tree mid)
    new files last.pairs
    last.lasting last.room (NoneLost e mid.faults last.faults))
    (λ e. HaltsFrom plan (now_of board g.W.Spawner.effect world tree cache) new files last.pairs
    last.lasting last.room (NoneLost e cache.faults last.faults)) c.finish.result
    (λ e halts. halts-behind-due plan board g.W.Spawner.effect world tree cache mid on
    (settle.kept store) (due.lasting store) due.keeps.room new files last.pairs last.lasting last.room
    (NoneLost e mid.faults last.faults) (NoneLost e cache.faults last.faults)
    (λ kept. subst (λ n. NoneLost e n last.faults) (sym faults) kept)
    (subst (λ now. HaltsFrom plan now new files last.pairs last.lasting last.room
    (NoneLost e mid.faults last.faults)) same halts))
    (c.finish.ensures.halts told store))

pub returns-clause-left : goal.returns-clause-left
returns-clause-left g c told store =
    let plan = c.args.plan.now in
    let board = c.args.board.now in
    let world = g.W.Spawner.runs c.hash_while_running.new.world in
    let tree = g.W.Tree.state c.hash_while_running.new.world in
    let cache = g.C.Cache.state c.args.cache.now in
    let mid = g.C.Cache.state c.settle_before_wait.new.cache in
    let settle = c.in_ok-settle_before_wait.ensures in
    let hash = c.in_ok-hash_while_running.ensures in
    let due = settle.due in
    let on = due-stands c.story_law.ensures plan board g.W.Spawner.effect world tree cache mid
    (due.lasting store) (due.within store) (settle.kept store) due.keeps.room in
    let same = now-ahead g.W.Spawner.effect world tree mid board c.hash_while_running.new.board
    hash.hashed in
    let steps = (g.W.Spawner.runs c.finish.new.world).steps in
    let law = c.halt_law.ensures in
    let finish = c.finish.ensures in
    rw (← settle.runs, ← settle.tree, ← hash.runs, ← hash.tree) (λ o stands.
    safe-then g.C.Cache.state g.C.Cache.moment g.C.Cache.left g.C.Cache.says law plan o world.steps
    steps c.args.cache.now c.settle_before_wait.new.cache c.finish.new.cache due.keeps finish.cache.keeps
    (finish.world.further told)
    (safe-part g.C.Cache.state g.C.Cache.moment g.C.Cache.left g.C.Cache.says plan o world.steps
    c.args.cache.now c.settle_before_wait.new.cache (due.images store)
    (λ pairs first. safe-less law plan o cache.room mid.room world.steps world.steps pairs
    due.keeps.room refl (law.safe plan o _ pairs stands first)))
    (finish.left told store o (subst (λ now. Stands plan o now) (sym same) (on o stands))))

pub returns-clause-stays : goal.returns-clause-stays
returns-clause-stays g c told store same last =
    let hash = c.in_ok-hash_while_running.ensures in
    let runs = hash.runs ∙ c.in_ok-settle_before_wait.ensures.runs in
    let still = same ∙ sym (ap (λ w. w.steps) runs) in
    c.finish.ensures.stays told store still
    (due-last g.C.Cache.tells g.C.Cache.state g.C.Cache.cost g.C.Cache.moment g.C.Cache.left
    g.C.Cache.says c.args.cache.now
    c.settle_before_wait.new.cache c.in_ok-settle_before_wait.ensures.due store last)

pub returns-clause-spends : goal.returns-clause-spends
returns-clause-spends g c told store same last =
    let due = c.in_ok-settle_before_wait.ensures.due in
    let hash = c.in_ok-hash_while_running.ensures in
    let runs = hash.runs ∙ c.in_ok-settle_before_wait.ensures.runs in
    let still = same ∙ sym (ap (λ w. w.steps) runs) in
    ok-more c.finish.result (λ spends.
    due-spends g.C.Cache.tells g.C.Cache.state g.C.Cache.cost g.C.Cache.moment g.C.Cache.left
    g.C.Cache.says c.args.plan.now
    (states c.args.board.now.core) (states c.finish.new.board.core) c.args.cache.now
    c.settle_before_wait.new.cache c.finish.new.cache due store last
    (subst (λ core. Spends c.args.plan.now g.C.Cache.state g.C.Cache.cost (states core)
    (states c.finish.new.board.core) c.settle_before_wait.new.cache c.finish.new.cache)
    hash.hashed.core spends))
    (c.finish.ensures.spends told store still
    (due-last g.C.Cache.tells g.C.Cache.state g.C.Cache.cost g.C.Cache.moment g.C.Cache.left
    g.C.Cache.says c.args.cache.now
    c.settle_before_wait.new.cache due store last))

pub returns-clause-spent : goal.returns-clause-spent
returns-clause-spent g c told store same last =
    let due = c.in_ok-settle_before_wait.ensures.due in
    let hash = c.in_ok-hash_while_running.ensures in
    let runs = hash.runs ∙ c.in_ok-settle_before_wait.ensures.runs in
    let still = same ∙ sym (ap (λ w. w.steps) runs) in
    due-spent g.C.Cache.tells g.C.Cache.state g.C.Cache.cost g.C.Cache.moment g.C.Cache.left
    g.C.Cache.says c.args.plan.now
    (states c.args.board.now.core) c.args.cache.now c.settle_before_wait.new.cache
    c.finish.new.cache due store last
    (subst (λ core. SpendsAtMost c.args.plan.now g.C.Cache.state g.C.Cache.cost (states core)
    c.settle_before_wait.new.cache c.finish.new.cache) hash.hashed.core
    (c.finish.ensures.spent told store still
    (due-last g.C.Cache.tells g.C.Cache.state g.C.Cache.cost g.C.Cache.moment g.C.Cache.left
    g.C.Cache.says c.args.cache.now
    c.settle_before_wait.new.cache due store last)))
