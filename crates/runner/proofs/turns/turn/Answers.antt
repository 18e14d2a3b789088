use Rattle.std.specs.Prelude.{⊤}
use Rattle.std.proofs.Common.{◌≤◌, sym, refl, subst, arith}
use Rattle.std.proofs.lemmas.Result.{err_from_is_err_and}
use Rattle.run_core.specs.declared.states.Next.TheVariants as turn
use Rattle.run_core.specs.declared.states.State.TheVariants.{Running}
use Rattle.run_core.specs.Core.{rules, states}
use Rattle.runner.specs.Costs.{still_costs}
use Rattle.run_board.proofs.TurnFacts.{by-plan, look-below, start-missed}
use Rattle.runner.proofs.CacheFacts.{cache-none, safe-none, safe-part}
use Rattle.runner.proofs.CostFacts.{puts-less}
use Rattle.runner.proofs.DueFacts.{due-goes, due-last, due-spends, due-stands}
use Rattle.runner.proofs.GoesFacts.{safe-less, world-none, world-same}
use Rattle.runner.proofs.HaltFacts.{halts-due, halts-when}
use Rattle.runner.proofs.turns.turn.Goals as goal

pub look-requires-clause-place : goal.look-requires-clause-place
look-requires-clause-place g c =
    let core = c.args.board.now.core in
    look-below c.args.plan.now (states core) c.in-Lookup.place (by-plan c.args.plan.now (rules core)
    (states core) (turn.Lookup c.in-Lookup.place) c.requires.board.rules_are
    (sym c.in-Lookup.ensures.next))

pub begin-requires-clause-place : goal.begin-requires-clause-place
begin-requires-clause-place g c =
    let core = c.args.board.now.core in
    (start-missed c.args.plan.now (states core) c.in-Start.place (by-plan c.args.plan.now
    (rules core) (states core) (turn.Start c.in-Start.place) c.requires.board.rules_are
    (sym c.in-Start.ensures.next))).0

pub returns-in_err-look-in-Lookup-clause-world : goal.returns-in_err-look-in-Lookup-clause-world
returns-in_err-look-in-Lookup-clause-world g c =
    let look = c.in_err-look-in-Lookup.ensures in
    world-same g.W.Tree.tells c.args.plan.now (g.W.Spawner.runs c.args.world.now)
    (g.W.Spawner.runs c.look.new.world) (g.W.Tree.state c.args.world.now)
    (g.W.Tree.state c.look.new.world) look.runs c.requires.steps.ours look.elsewhere

pub returns-in_err-look-in-Lookup-clause-halts : goal.returns-in_err-look-in-Lookup-clause-halts
returns-in_err-look-in-Lookup-clause-halts g c told store =
    let p = err_from_is_err_and c.from_residual.result c.from_residual.ensures.1 in
    rw (p.1, p.2) (c.in_err-look-in-Lookup.ensures.halts told store)

pub returns-in_ok-look-in-Lookup-clause-world : goal.returns-in_ok-look-in-Lookup-clause-world
returns-in_ok-look-in-Lookup-clause-world g c =
    let look = c.in_ok-look-in-Lookup.ensures in
    world-same g.W.Tree.tells c.args.plan.now (g.W.Spawner.runs c.args.world.now)
    (g.W.Spawner.runs c.look.new.world) (g.W.Tree.state c.args.world.now)
    (g.W.Tree.state c.look.new.world) look.runs c.requires.steps.ours look.elsewhere

pub returns-in_err-begin-in-Start-clause-cache : goal.returns-in_err-begin-in-Start-clause-cache
returns-in_err-begin-in-Start-clause-cache g c =
    cache-none g.C.Cache.state g.C.Cache.moment g.C.Cache.left g.C.Cache.says g.C.Cache.tells
    c.args.cache.now
    (λ store image left. g.met.C.Cache.at_rest c.args.cache.now image store c.requires.whole left)

pub returns-in_err-begin-in-Start-clause-left : goal.returns-in_err-begin-in-Start-clause-left
returns-in_err-begin-in-Start-clause-left g c told store o stands =
    let cache = g.C.Cache.state c.args.cache.now in
    safe-none g.C.Cache.state g.C.Cache.moment g.C.Cache.left g.C.Cache.says c.args.plan.now o
    (g.W.Spawner.runs c.begin.new.world).steps c.args.cache.now
    (λ image left. g.met.C.Cache.at_rest c.args.cache.now image store c.requires.whole left)
    (λ pairs first. c.in_err-begin-in-Start.ensures.safe told o cache.pairs pairs cache.lasting cache.room
    stands first)

pub returns-in_err-begin-in-Start-clause-halts : goal.returns-in_err-begin-in-Start-clause-halts
returns-in_err-begin-in-Start-clause-halts g c told store =
    let cache = g.C.Cache.state c.args.cache.now in
    let p = err_from_is_err_and c.from_residual-in_err-begin-in-Start.result
    c.from_residual-in_err-begin-in-Start.ensures.1 in
    rw (p.1, p.2) (λ o stands. halts-when c.args.plan.now o _ _ _ _ _ _ ⊤ _ (λ kept. tt)
    (c.in_err-begin-in-Start.ensures.halts told cache.pairs cache.lasting cache.room o stands))

pub returns-in_ok-begin-in-Start-clause-cache : goal.returns-in_ok-begin-in-Start-clause-cache
returns-in_ok-begin-in-Start-clause-cache g c =
    cache-none g.C.Cache.state g.C.Cache.moment g.C.Cache.left g.C.Cache.says g.C.Cache.tells
    c.args.cache.now
    (λ store image left. g.met.C.Cache.at_rest c.args.cache.now image store c.requires.whole left)

pub returns-in_ok-begin-in-Start-clause-left : goal.returns-in_ok-begin-in-Start-clause-left
returns-in_ok-begin-in-Start-clause-left g c told store o stands =
    let cache = g.C.Cache.state c.args.cache.now in
    safe-none g.C.Cache.state g.C.Cache.moment g.C.Cache.left g.C.Cache.says c.args.plan.now o
    (g.W.Spawner.runs c.begin.new.world).steps c.args.cache.now
    (λ image left. g.met.C.Cache.at_rest c.args.cache.now image store c.requires.whole left)
    (λ pairs first. c.in_ok-begin-in-Start.ensures.safe told o cache.pairs pairs cache.lasting cache.room
    stands first)

pub returns-in_ok-begin-in-Start-clause-stands : goal.returns-in_ok-begin-in-Start-clause-stands
returns-in_ok-begin-in-Start-clause-stands g c told store =
    let cache = g.C.Cache.state c.args.cache.now in
    c.in_ok-begin-in-Start.ensures.stands told cache.pairs cache.lasting cache.room

pub returns-in_ok-begin-in-Start-clause-spends : goal.returns-in_ok-begin-in-Start-clause-spends
returns-in_ok-begin-in-Start-clause-spends g c told store same last =
    let plan = c.args.plan.now in
    let st = states c.args.board.now.core in
    let cost = g.C.Cache.cost c.args.cache.now in
    let less = subst (λ s. still_costs cost plan s ≤ still_costs cost plan st)
    (sym c.in_ok-begin-in-Start.ensures.begun) (puts-less cost plan st c.in-Start.place Running refl)
    in
    omega (arith, less)

pub returns-in_err-wait_first-in-WaitFirst-clause-halts : goal.returns-in_err-wait_first-in-WaitFirst-clause-halts
returns-in_err-wait_first-in-WaitFirst-clause-halts g c told store =
    let p = err_from_is_err_and c.from_residual-in_err-wait_first-in-WaitFirst.result
    c.from_residual-in_err-wait_first-in-WaitFirst.ensures.1 in
    rw (p.1, p.2) (c.in_err-wait_first-in-WaitFirst.ensures.halts told store)

-- ---- nothing is left to do

pub returns-in_err-settle_all-in-Finished-clause-world : goal.returns-in_err-settle_all-in-Finished-clause-world
returns-in_err-settle_all-in-Finished-clause-world g c =
    world-none g.W.Tree.tells c.args.plan.now (g.W.Spawner.runs c.args.world.now)
    (g.W.Tree.state c.args.world.now) c.requires.steps.ours

pub returns-in_err-settle_all-in-Finished-clause-cache : goal.returns-in_err-settle_all-in-Finished-clause-cache
returns-in_err-settle_all-in-Finished-clause-cache g c =
    due-goes g.C.Cache.tells g.C.Cache.state g.C.Cache.cost g.C.Cache.moment g.C.Cache.left
    g.C.Cache.says c.args.cache.now
    c.settle_all.new.cache c.in_err-settle_all-in-Finished.ensures.due
    (λ told. g.met.C.Cache.within c.args.cache.now told)

pub returns-in_err-settle_all-in-Finished-clause-halts : goal.returns-in_err-settle_all-in-Finished-clause-halts
returns-in_err-settle_all-in-Finished-clause-halts g c told store =
    let cache = g.C.Cache.state c.args.cache.now in
    let new = g.C.Cache.state c.settle_all.new.cache in
    let due = c.in_err-settle_all-in-Finished.ensures.due in
    let p = err_from_is_err_and c.from_residual-in_err-settle_all-in-Finished.result
    c.from_residual-in_err-settle_all-in-Finished.ensures.1 in
    rw (p.1, p.2) (halts-due c.args.plan.now c.halt_law.ensures c.args.board.now g.W.Spawner.effect
    (g.W.Spawner.runs c.args.world.now) (g.W.Tree.state c.args.world.now) cache.pairs cache.lasting
    cache.room c.requires.steps new.pairs new.lasting new.room _ _ (due.first store)
    (due.same store) (λ kept failed. kept.calm failed) (due.lasting store) due.keeps.room)

pub returns-in_err-settle_all-in-Finished-clause-left : goal.returns-in_err-settle_all-in-Finished-clause-left
returns-in_err-settle_all-in-Finished-clause-left g c told store o stands =
    let plan = c.args.plan.now in
    let steps = (g.W.Spawner.runs c.args.world.now).steps in
    let due = c.in_err-settle_all-in-Finished.ensures.due in
    safe-part g.C.Cache.state g.C.Cache.moment g.C.Cache.left g.C.Cache.says plan o steps
    c.args.cache.now c.settle_all.new.cache (due.images store)
    (λ pairs first. safe-less c.halt_law.ensures plan o (g.C.Cache.state c.args.cache.now).room
    (g.C.Cache.state c.settle_all.new.cache).room steps steps pairs due.keeps.room refl
    (c.halt_law.ensures.safe plan o _ pairs stands first))

pub returns-in_err-settle_all-in-Finished-clause-stays : goal.returns-in_err-settle_all-in-Finished-clause-stays
returns-in_err-settle_all-in-Finished-clause-stays g c told store same last =
    due-last g.C.Cache.tells g.C.Cache.state g.C.Cache.cost g.C.Cache.moment g.C.Cache.left
    g.C.Cache.says c.args.cache.now
    c.settle_all.new.cache c.in_err-settle_all-in-Finished.ensures.due store last

pub returns-in_err-settle_all-in-Finished-clause-spent : goal.returns-in_err-settle_all-in-Finished-clause-spent
returns-in_err-settle_all-in-Finished-clause-spent g c told store same last =
    let same = c.in_err-settle_all-in-Finished.ensures.due.probes store last in omega (arith, same)

pub returns-in_ok-settle_all-in-Finished-clause-left : goal.returns-in_ok-settle_all-in-Finished-clause-left
returns-in_ok-settle_all-in-Finished-clause-left g c told store o stands =
    let plan = c.args.plan.now in
    let steps = (g.W.Spawner.runs c.args.world.now).steps in
    let due = c.in_ok-settle_all-in-Finished.ensures.due in
    safe-part g.C.Cache.state g.C.Cache.moment g.C.Cache.left g.C.Cache.says plan o steps
    c.args.cache.now c.settle_all.new.cache (due.images store)
    (λ pairs first. safe-less c.halt_law.ensures plan o (g.C.Cache.state c.args.cache.now).room
    (g.C.Cache.state c.settle_all.new.cache).room steps steps pairs due.keeps.room refl
    (c.halt_law.ensures.safe plan o _ pairs stands first))

pub returns-in_ok-settle_all-in-Finished-clause-stays : goal.returns-in_ok-settle_all-in-Finished-clause-stays
returns-in_ok-settle_all-in-Finished-clause-stays g c told store same last =
    due-last g.C.Cache.tells g.C.Cache.state g.C.Cache.cost g.C.Cache.moment g.C.Cache.left
    g.C.Cache.says c.args.cache.now
    c.settle_all.new.cache c.in_ok-settle_all-in-Finished.ensures.due store last

pub returns-in_ok-settle_all-in-Finished-clause-spent : goal.returns-in_ok-settle_all-in-Finished-clause-spent
returns-in_ok-settle_all-in-Finished-clause-spent g c told store same last =
    let same = c.in_ok-settle_all-in-Finished.ensures.due.probes store last in omega (arith, same)

pub returns-in_ok-settle_all-in-Finished-clause-turned : goal.returns-in_ok-settle_all-in-Finished-clause-turned
returns-in_ok-settle_all-in-Finished-clause-turned g c =
    let core = c.args.board.now.core in (
      refl,
      by-plan c.args.plan.now (rules core) (states core) turn.Finished
          c.requires.board.rules_are (sym c.in-Finished.ensures.next),
    )

pub returns-in_ok-settle_all-in-Finished-clause-world : goal.returns-in_ok-settle_all-in-Finished-clause-world
returns-in_ok-settle_all-in-Finished-clause-world g c =
    world-none g.W.Tree.tells c.args.plan.now (g.W.Spawner.runs c.args.world.now)
    (g.W.Tree.state c.args.world.now) c.requires.steps.ours

pub returns-in_ok-settle_all-in-Finished-clause-cache : goal.returns-in_ok-settle_all-in-Finished-clause-cache
returns-in_ok-settle_all-in-Finished-clause-cache g c =
    due-goes g.C.Cache.tells g.C.Cache.state g.C.Cache.cost g.C.Cache.moment g.C.Cache.left
    g.C.Cache.says c.args.cache.now
    c.settle_all.new.cache c.in_ok-settle_all-in-Finished.ensures.due
    (λ told. g.met.C.Cache.within c.args.cache.now told)

pub returns-in_ok-settle_all-in-Finished-clause-stands : goal.returns-in_ok-settle_all-in-Finished-clause-stands
returns-in_ok-settle_all-in-Finished-clause-stands g c told store =
    let settle = c.in_ok-settle_all-in-Finished.ensures in
    due-stands c.story_law.ensures c.args.plan.now c.args.board.now g.W.Spawner.effect
    (g.W.Spawner.runs c.args.world.now) (g.W.Tree.state c.args.world.now)
    (g.C.Cache.state c.args.cache.now) (g.C.Cache.state c.settle_all.new.cache)
    (settle.due.lasting store) (settle.due.within store) (settle.kept store) settle.due.keeps.room

pub returns-in_ok-settle_all-in-Finished-clause-spends : goal.returns-in_ok-settle_all-in-Finished-clause-spends
returns-in_ok-settle_all-in-Finished-clause-spends g c told store same last =
    let st = states c.args.board.now.core in
    due-spends g.C.Cache.tells g.C.Cache.state g.C.Cache.cost g.C.Cache.moment g.C.Cache.left
    g.C.Cache.says c.args.plan.now st st
    c.args.cache.now c.settle_all.new.cache c.settle_all.new.cache
    c.in_ok-settle_all-in-Finished.ensures.due store last (omega arith)
