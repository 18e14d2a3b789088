use Rattle.std.specs.Prelude.{⊤}
use Rattle.std.proofs.Common.{◌∙◌, ap, sym, refl, subst, arith}
use Rattle.std.proofs.lemmas.Result.{err_from_is_err_and}
use Rattle.run_core.specs.Core.{rules, states}
use Rattle.run_core.specs.Machine.{next}
use Rattle.run_plan.specs.StoryLaws.{Stands}
use Rattle.run_board.specs.Progress.{now_of}
use Rattle.run_board.proofs.AheadFacts.{move-ahead}
use Rattle.runner.specs.Answers.{NoneLost}
use Rattle.runner.specs.Costs.{Spends, SpendsAtMost}
use Rattle.runner.specs.Halting.{HaltsFrom}
use Rattle.runner.specs.Running.{InStep}
use Rattle.runner.proofs.AskFacts.{err-known, now-ahead, ok-more}
use Rattle.runner.proofs.CacheFacts.{cache-none, cache-reads, cache-then, grows-same, reads-last, safe-none, safe-part, safe-then}
use Rattle.runner.proofs.DueFacts.{due-goes, due-last, due-spends, due-spent, due-stands}
use Rattle.runner.proofs.FileFacts.{undone-same}
use Rattle.runner.proofs.GoesFacts.{safe-less}
use Rattle.runner.proofs.HaltFacts.{halts-behind-due, halts-due, halts-here}
use Rattle.runner.proofs.looking.ask.Goals as goal

pub returns-in_err-print-clause-cache : goal.returns-in_err-print-clause-cache
returns-in_err-print-clause-cache g c =
    cache-none g.C.Cache.state g.C.Cache.moment g.C.Cache.left g.C.Cache.says g.C.Cache.tells
    c.args.cache.now
    (λ store image left. g.met.C.Cache.at_rest c.args.cache.now image store c.requires.whole left)

pub returns-in_err-print-clause-halts : goal.returns-in_err-print-clause-halts
returns-in_err-print-clause-halts g c told store =
    let tree = g.W.Tree.state c.args.world.now in
    let cache = g.C.Cache.state c.args.cache.now in
    let p = err_from_is_err_and c.from_residual.result c.from_residual.ensures.1 in
    rw (p.1, p.2) (halts-here c.args.plan.now c.halt_law.ensures c.args.board.now
    g.W.Spawner.effect (g.W.Spawner.runs c.args.world.now) tree cache.pairs cache.lasting cache.room
    c.requires.steps (g.W.Spawner.runs c.args.world.now) tree.files cache.pairs cache.lasting
    cache.room _ refl
    (undone-same c.args.plan.now (states c.args.board.now.core) tree.files tree.files refl) refl
    (omega arith) (omega arith))

pub returns-in_err-print-clause-left : goal.returns-in_err-print-clause-left
returns-in_err-print-clause-left g c told store o stands =
    safe-none g.C.Cache.state g.C.Cache.moment g.C.Cache.left g.C.Cache.says c.args.plan.now o
    (g.W.Spawner.runs c.args.world.now).steps c.args.cache.now
    (λ image left. g.met.C.Cache.at_rest c.args.cache.now image store c.requires.whole left)
    (λ pairs first. c.halt_law.ensures.safe c.args.plan.now o _ pairs stands first)

pub returns-in_err-text-clause-cache : goal.returns-in_err-text-clause-cache
returns-in_err-text-clause-cache g c =
    cache-none g.C.Cache.state g.C.Cache.moment g.C.Cache.left g.C.Cache.says g.C.Cache.tells
    c.args.cache.now
    (λ store image left. g.met.C.Cache.at_rest c.args.cache.now image store c.requires.whole left)

pub returns-in_err-text-clause-halts : goal.returns-in_err-text-clause-halts
returns-in_err-text-clause-halts g c told store =
    let tree = g.W.Tree.state c.args.world.now in
    let cache = g.C.Cache.state c.args.cache.now in
    let p = err_from_is_err_and c.from_residual-in_err-text.result c.from_residual-in_err-text.ensures.1 in
    rw (p.1, p.2) (halts-here c.args.plan.now c.halt_law.ensures c.args.board.now
    g.W.Spawner.effect (g.W.Spawner.runs c.args.world.now) tree cache.pairs cache.lasting cache.room
    c.requires.steps (g.W.Spawner.runs c.args.world.now) tree.files cache.pairs cache.lasting
    cache.room _ refl
    (undone-same c.args.plan.now (states c.args.board.now.core) tree.files tree.files refl) refl
    (omega arith) (omega arith))

pub returns-in_err-text-clause-left : goal.returns-in_err-text-clause-left
returns-in_err-text-clause-left g c told store o stands =
    safe-none g.C.Cache.state g.C.Cache.moment g.C.Cache.left g.C.Cache.says c.args.plan.now o
    (g.W.Spawner.runs c.args.world.now).steps c.args.cache.now
    (λ image left. g.met.C.Cache.at_rest c.args.cache.now image store c.requires.whole left)
    (λ pairs first. c.halt_law.ensures.safe c.args.plan.now o _ pairs stands first)

pub returns-in_err-settle_before_look_up-clause-cache : goal.returns-in_err-settle_before_look_up-clause-cache
returns-in_err-settle_before_look_up-clause-cache g c =
    due-goes g.C.Cache.tells g.C.Cache.state g.C.Cache.cost g.C.Cache.moment g.C.Cache.left
    g.C.Cache.says c.args.cache.now
    c.settle_before_look_up.new.cache c.in_err-settle_before_look_up.ensures.due
    (λ told. g.met.C.Cache.within c.args.cache.now told)

pub returns-in_err-settle_before_look_up-clause-halts : goal.returns-in_err-settle_before_look_up-clause-halts
returns-in_err-settle_before_look_up-clause-halts g c told store =
    let cache = g.C.Cache.state c.args.cache.now in
    let new = g.C.Cache.state c.settle_before_look_up.new.cache in
    let due = c.in_err-settle_before_look_up.ensures.due in
    let p = err_from_is_err_and c.from_residual-in_err-settle_before_look_up.result
    c.from_residual-in_err-settle_before_look_up.ensures.1 in
    rw (p.1, p.2) (halts-due c.args.plan.now c.halt_law.ensures c.args.board.now g.W.Spawner.effect
    (g.W.Spawner.runs c.args.world.now) (g.W.Tree.state c.args.world.now) cache.pairs cache.lasting
    cache.room c.requires.steps new.pairs new.lasting new.room _ _ (due.first store)
    (due.same store) (λ kept failed. kept.calm failed) (due.lasting store) due.keeps.room)

pub returns-in_err-settle_before_look_up-clause-left : goal.returns-in_err-settle_before_look_up-clause-left
returns-in_err-settle_before_look_up-clause-left g c told store o stands =
    let plan = c.args.plan.now in
    let cache = g.C.Cache.state c.args.cache.now in
    let new = g.C.Cache.state c.settle_before_look_up.new.cache in
    let steps = (g.W.Spawner.runs c.args.world.now).steps in
    let due = c.in_err-settle_before_look_up.ensures.due in
    safe-part g.C.Cache.state g.C.Cache.moment g.C.Cache.left g.C.Cache.says plan o steps
    c.args.cache.now c.settle_before_look_up.new.cache (due.images store)
    (λ pairs first. safe-less c.halt_law.ensures plan o cache.room new.room steps steps pairs
    due.keeps.room refl (c.halt_law.ensures.safe plan o _ pairs stands first))

pub returns-in_err-settle_before_look_up-clause-stays : goal.returns-in_err-settle_before_look_up-clause-stays
returns-in_err-settle_before_look_up-clause-stays g c store last =
    due-last g.C.Cache.tells g.C.Cache.state g.C.Cache.cost g.C.Cache.moment g.C.Cache.left
    g.C.Cache.says c.args.cache.now
    c.settle_before_look_up.new.cache c.in_err-settle_before_look_up.ensures.due store last

pub returns-in_err-settle_before_look_up-clause-spent : goal.returns-in_err-settle_before_look_up-clause-spent
returns-in_err-settle_before_look_up-clause-spent g c store last =
    let same = c.in_err-settle_before_look_up.ensures.due.probes store last in omega (arith, same)

-- ---- what was due was put, and it is asked for

pub ask_by-requires-clause-steps : goal.ask_by-requires-clause-steps
ask_by-requires-clause-steps g c =
    subst (λ core. InStep c.args.plan.now (states core) (g.W.Spawner.runs c.args.world.now))
    (sym c.in_ok-print.ensures.ahead.core) c.requires.steps

pub ask_by-requires-clause-next : goal.ask_by-requires-clause-next
ask_by-requires-clause-next g c =
    ap (λ core. next (rules core) (states core)) c.in_ok-print.ensures.ahead.core
    ∙ c.requires.next

pub returns-clause-moved : goal.returns-clause-moved
returns-clause-moved g c =
    ok-more c.ask_by.result (λ moved. move-ahead c.args.plan.now c.args.board.now
    c.fingerprint.new.self c.ask_by.new.board c.in_ok-print.ensures.ahead moved)
    c.ask_by.ensures.moved

pub returns-clause-cache : goal.returns-clause-cache
returns-clause-cache g c =
    cache-then g.C.Cache.state g.C.Cache.moment g.C.Cache.left g.C.Cache.says g.C.Cache.tells
    c.args.cache.now c.settle_before_look_up.new.cache c.ask_by.new.cache
    (due-goes g.C.Cache.tells g.C.Cache.state g.C.Cache.cost g.C.Cache.moment g.C.Cache.left
    g.C.Cache.says c.args.cache.now
    c.settle_before_look_up.new.cache c.in_ok-settle_before_look_up.ensures.due
    (λ told. g.met.C.Cache.within c.args.cache.now told))
    (cache-reads g.C.Cache.state g.C.Cache.moment g.C.Cache.left g.C.Cache.says g.C.Cache.tells
    g.C.Cache.cost g.C.Cache.stands g.C.Cache.shows c.settle_before_look_up.new.cache
    c.ask_by.new.cache (λ told. g.met.C.Cache.within c.settle_before_look_up.new.cache told)
    c.ask_by.ensures.reads)

pub returns-clause-stands : goal.returns-clause-stands
returns-clause-stands g c told store =
    let plan = c.args.plan.now in
    let board = c.args.board.now in
    let world = g.W.Spawner.runs c.args.world.now in
    let tree = g.W.Tree.state c.args.world.now in
    let cache = g.C.Cache.state c.args.cache.now in
    let mid = g.C.Cache.state c.settle_before_look_up.new.cache in
    let settle = c.in_ok-settle_before_look_up.ensures in
    let due = settle.due in
    let on = due-stands c.story_law.ensures plan board g.W.Spawner.effect world tree cache mid
    (due.lasting store) (due.within store) (settle.kept store) due.keeps.room in
    let same = now-ahead g.W.Spawner.effect world tree mid board c.fingerprint.new.self
    c.in_ok-print.ensures.ahead in
    ok-more c.ask_by.result (λ stays o stands.
    stays o (subst (λ now. Stands plan o now) (sym same) (on o stands)))
    (c.ask_by.ensures.stands told store)

pub returns-clause-halts : goal.returns-clause-halts
returns-clause-halts g c told store =
    let plan = c.args.plan.now in
    let board = c.args.board.now in
    let world = g.W.Spawner.runs c.args.world.now in
    let tree = g.W.Tree.state c.args.world.now in
    let cache = g.C.Cache.state c.args.cache.now in
    let mid = g.C.Cache.state c.settle_before_look_up.new.cache in
    let settle = c.in_ok-settle_before_look_up.ensures in
    let due = settle.due in
    let on = due-stands c.story_law.ensures plan board g.W.Spawner.effect world tree cache mid
    (due.lasting store) (due.within store) (settle.kept store) due.keeps.room in
    let same = now-ahead g.W.Spawner.effect world tree mid board c.fingerprint.new.self
    c.in_ok-print.ensures.ahead in
    let last = g.C.Cache.state c.ask_by.new.cache in
    let new = g.W.Spawner.runs c.ask_by.new.world in
    let files = (g.W.Tree.state c.ask_by.new.world).files in
    err-known (λ e. HaltsFrom plan (now_of board g.W.Spawner.effect world tree cache) new files
    last.pairs last.lasting last.room (NoneLost e cache.faults last.faults)) c.ask_by.result
    (λ e halts. halts-behind-due plan board g.W.Spawner.effect world tree cache mid on
    (settle.kept store) (due.lasting store) due.keeps.room new files last.pairs last.lasting last.room
    ⊤ (NoneLost e cache.faults last.faults) (λ kept. tt)
    (subst (λ now. HaltsFrom plan now new files last.pairs last.lasting last.room ⊤) same halts))
    (c.ask_by.ensures.halts told store)

pub returns-clause-left : goal.returns-clause-left
returns-clause-left g c told store o stands =
    let plan = c.args.plan.now in
    let board = c.args.board.now in
    let world = g.W.Spawner.runs c.args.world.now in
    let tree = g.W.Tree.state c.args.world.now in
    let cache = g.C.Cache.state c.args.cache.now in
    let mid = g.C.Cache.state c.settle_before_look_up.new.cache in
    let settle = c.in_ok-settle_before_look_up.ensures in
    let due = settle.due in
    let on = due-stands c.story_law.ensures plan board g.W.Spawner.effect world tree cache mid
    (due.lasting store) (due.within store) (settle.kept store) due.keeps.room in
    let same = now-ahead g.W.Spawner.effect world tree mid board c.fingerprint.new.self
    c.in_ok-print.ensures.ahead in
    let steps = (g.W.Spawner.runs c.ask_by.new.world).steps in
    let reads = c.ask_by.ensures.reads in
    let law = c.halt_law.ensures in
    let still = ap (λ w. w.steps) c.ask_by.ensures.runs in
    safe-then g.C.Cache.state g.C.Cache.moment g.C.Cache.left g.C.Cache.says law plan o world.steps
    steps c.args.cache.now c.settle_before_look_up.new.cache c.ask_by.new.cache due.keeps reads.keeps
    (grows-same world.steps steps still)
    (safe-part g.C.Cache.state g.C.Cache.moment g.C.Cache.left g.C.Cache.says plan o world.steps
    c.args.cache.now c.settle_before_look_up.new.cache (due.images store)
    (λ pairs first. safe-less law plan o cache.room mid.room world.steps world.steps pairs
    due.keeps.room refl (law.safe plan o _ pairs stands first)))
    (safe-part g.C.Cache.state g.C.Cache.moment g.C.Cache.left g.C.Cache.says plan o steps
    c.settle_before_look_up.new.cache c.ask_by.new.cache (reads.left store)
    (λ pairs first. safe-less law plan o mid.room (g.C.Cache.state c.ask_by.new.cache).room
    world.steps steps pairs reads.keeps.room still (law.safe plan o _ pairs (on o stands) first)))

pub returns-clause-stays : goal.returns-clause-stays
returns-clause-stays g c store last =
    reads-last g.C.Cache.state g.C.Cache.moment g.C.Cache.left g.C.Cache.says g.C.Cache.tells
    g.C.Cache.cost g.C.Cache.stands g.C.Cache.shows c.settle_before_look_up.new.cache
    c.ask_by.new.cache store c.ask_by.ensures.reads
    (due-last g.C.Cache.tells g.C.Cache.state g.C.Cache.cost g.C.Cache.moment g.C.Cache.left
    g.C.Cache.says c.args.cache.now
    c.settle_before_look_up.new.cache c.in_ok-settle_before_look_up.ensures.due store last)

pub returns-clause-spends : goal.returns-clause-spends
returns-clause-spends g c store last =
    let core = c.in_ok-print.ensures.ahead.core in
    let later = states c.ask_by.new.board.core in
    ok-more c.ask_by.result (λ spends.
    due-spends g.C.Cache.tells g.C.Cache.state g.C.Cache.cost g.C.Cache.moment g.C.Cache.left
    g.C.Cache.says c.args.plan.now
    (states c.args.board.now.core) later c.args.cache.now c.settle_before_look_up.new.cache
    c.ask_by.new.cache c.in_ok-settle_before_look_up.ensures.due store last
    (subst (λ core. Spends c.args.plan.now g.C.Cache.state g.C.Cache.cost (states core) later
    c.settle_before_look_up.new.cache c.ask_by.new.cache) core spends))
    (c.ask_by.ensures.spends store)

pub returns-clause-spent : goal.returns-clause-spent
returns-clause-spent g c store last =
    let core = c.in_ok-print.ensures.ahead.core in
    due-spent g.C.Cache.tells g.C.Cache.state g.C.Cache.cost g.C.Cache.moment g.C.Cache.left
    g.C.Cache.says c.args.plan.now
    (states c.args.board.now.core) c.args.cache.now c.settle_before_look_up.new.cache
    c.ask_by.new.cache c.in_ok-settle_before_look_up.ensures.due store last
    (subst (λ core. SpendsAtMost c.args.plan.now g.C.Cache.state g.C.Cache.cost (states core)
    c.settle_before_look_up.new.cache c.ask_by.new.cache) core (c.ask_by.ensures.spent store))
