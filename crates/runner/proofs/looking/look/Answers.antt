use Rattle.std.proofs.Common.{◌≤◌, ◌∙◌, sym, refl, subst, arith, inl}
use Rattle.run_core.specs.declared.states.Next.TheVariants as turn
use Rattle.run_core.specs.declared.states.State.TheVariants.{Passed, Missed}
use Rattle.run_core.specs.Core.{rules, states}
use Rattle.run_core.specs.Machine.{put}
use Rattle.runner.specs.Costs.{still_costs}
use Rattle.run_board.specs.Progress.{now_of}
use Rattle.run_board.proofs.TurnFacts.{by-plan, look-waits}
use Rattle.runner.proofs.CacheFacts.{cache-none, safe-none}
use Rattle.runner.proofs.CostFacts.{puts-less}
use Rattle.run_board.proofs.StoryFacts.{become}
use Rattle.runner.proofs.WorldFacts.{step-looked}
use Rattle.runner.proofs.looking.look.Goals as goal

pub returns-then-not-has_script-clause-cache : goal.returns-then-not-has_script-clause-cache
returns-then-not-has_script-clause-cache g c =
    cache-none g.C.Cache.state g.C.Cache.moment g.C.Cache.left g.C.Cache.says g.C.Cache.tells
    c.args.cache.now
    (λ store image left. g.met.C.Cache.at_rest c.args.cache.now image store c.requires.whole left)

pub returns-then-not-has_script-clause-left : goal.returns-then-not-has_script-clause-left
returns-then-not-has_script-clause-left g c told store o stands =
    safe-none g.C.Cache.state g.C.Cache.moment g.C.Cache.left g.C.Cache.says c.args.plan.now o
    (g.W.Spawner.runs c.args.world.now).steps c.args.cache.now
    (λ image left. g.met.C.Cache.at_rest c.args.cache.now image store c.requires.whole left)
    (λ pairs first. c.halt_law.ensures.safe c.args.plan.now o _ pairs stands first)

pub returns-then-not-has_script-clause-stands : goal.returns-then-not-has_script-clause-stands
returns-then-not-has_script-clause-stands g c told store o stands =
    let plan = c.args.plan.now in
    let t = c.args.place in
    let st = states c.args.board.now.core in
    let is = by-plan plan (rules c.args.board.now.core) st (turn.Lookup t)
    c.requires.board.rules_are c.requires.next in
    let world = g.W.Spawner.runs c.args.world.now in
    let tree = g.W.Tree.state c.args.world.now in
    let cache = g.C.Cache.state c.args.cache.now in
    let now = now_of c.args.board.now g.W.Spawner.effect world tree cache in
    let story = c.story_law.ensures.pass plan o now t stands is
    (sym c.has_script.ensures ∙ c.if-not-has_script.true) in
    become plan o now (record now { states = put st t Passed })
    (now_of c.pass.new.self g.W.Spawner.effect world tree cache) stands
    (sym c.pass.ensures.states) refl refl refl refl refl refl refl (sym c.pass.ensures.reports)
    (sym c.pass.ensures.logs) (sym c.pass.ensures.shown) story

pub returns-then-not-has_script-clause-spends : goal.returns-then-not-has_script-clause-spends
returns-then-not-has_script-clause-spends g c store last =
    let plan = c.args.plan.now in
    let st = states c.args.board.now.core in
    let cost = g.C.Cache.cost c.args.cache.now in
    let less = subst (λ s. still_costs cost plan s ≤ still_costs cost plan st)
    (sym c.pass.ensures.states) (puts-less cost plan st c.args.place Passed refl) in
    omega (arith, less)

pub returns-then-bypasses-clause-steps : goal.returns-then-bypasses-clause-steps
returns-then-bypasses-clause-steps g c =
    let plan = c.args.plan.now in
    let st = states c.args.board.now.core in
    let is = by-plan plan (rules c.args.board.now.core) st (turn.Lookup c.args.place)
    c.requires.board.rules_are c.requires.next in
    step-looked plan c.requires.plan st (g.W.Spawner.runs c.args.world.now) c.args.place Missed
    (states c.miss.new.self.core) c.miss.ensures.states (look-waits plan st c.args.place is) refl
    (λ h. sym c.has_script.ensures ∙ c.if-not-has_script.false) c.requires.steps

pub returns-then-bypasses-clause-cache : goal.returns-then-bypasses-clause-cache
returns-then-bypasses-clause-cache g c =
    cache-none g.C.Cache.state g.C.Cache.moment g.C.Cache.left g.C.Cache.says g.C.Cache.tells
    c.args.cache.now
    (λ store image left. g.met.C.Cache.at_rest c.args.cache.now image store c.requires.whole left)

pub returns-then-bypasses-clause-left : goal.returns-then-bypasses-clause-left
returns-then-bypasses-clause-left g c told store o stands =
    safe-none g.C.Cache.state g.C.Cache.moment g.C.Cache.left g.C.Cache.says c.args.plan.now o
    (g.W.Spawner.runs c.args.world.now).steps c.args.cache.now
    (λ image left. g.met.C.Cache.at_rest c.args.cache.now image store c.requires.whole left)
    (λ pairs first. c.halt_law.ensures.safe c.args.plan.now o _ pairs stands first)

pub returns-then-bypasses-clause-stands : goal.returns-then-bypasses-clause-stands
returns-then-bypasses-clause-stands g c told store o stands =
    let plan = c.args.plan.now in
    let t = c.args.place in
    let st = states c.args.board.now.core in
    let is = by-plan plan (rules c.args.board.now.core) st (turn.Lookup t)
    c.requires.board.rules_are c.requires.next in
    let world = g.W.Spawner.runs c.args.world.now in
    let tree = g.W.Tree.state c.args.world.now in
    let cache = g.C.Cache.state c.args.cache.now in
    let now = now_of c.args.board.now g.W.Spawner.effect world tree cache in
    let story = c.story_law.ensures.miss plan o now t now.room stands is
    (sym c.has_script.ensures ∙ c.if-not-has_script.false) (omega arith)
    (inl (sym c.bypasses.ensures ∙ c.if-bypasses.true)) in
    become plan o now (record now { states = put st t Missed; room = now.room })
    (now_of c.miss.new.self g.W.Spawner.effect world tree cache) stands
    (sym c.miss.ensures.states) refl refl refl refl refl refl refl (sym c.miss.ensures.reports)
    (sym c.miss.ensures.logs) (sym c.miss.ensures.shown) story

pub returns-then-bypasses-clause-spends : goal.returns-then-bypasses-clause-spends
returns-then-bypasses-clause-spends g c store last =
    let plan = c.args.plan.now in
    let st = states c.args.board.now.core in
    let cost = g.C.Cache.cost c.args.cache.now in
    let less = subst (λ s. still_costs cost plan s ≤ still_costs cost plan st)
    (sym c.miss.ensures.states) (puts-less cost plan st c.args.place Missed refl) in
    omega (arith, less)
