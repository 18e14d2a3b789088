-- What asking the cache for a task costs.
use Rattle.std.proofs.Common.{◌+◌, ◌≤◌, ◌∙◌, ap, sym, refl, subst, arith}
use Rattle.run_core.specs.declared.states.State.TheVariants.{Passed, Missed}
use Rattle.run_core.specs.Core.{states}
use Rattle.run_laws.specs.Keys.{key_of}
use Rattle.runner.specs.Costs.{still_costs}
use Rattle.run_board.proofs.TurnFacts.{board-waits}
use Rattle.runner.proofs.CostFacts.{costs-same, look-less, waiting-costs}
use Rattle.runner.proofs.looking.ask_by.Goals as goal

pub returns-in_err-look_up-clause-spent : goal.returns-in_err-look_up-clause-spent
returns-in_err-look_up-clause-spent g c store =
    let plan = c.args.plan.now in
    let t = c.args.place in
    let st = states c.args.board.now.core in
    let cost = g.C.Cache.cost c.args.cache.now in
    let key = ap cost c.requires.key in
    let waits = board-waits plan c.args.board.now c.requires.board t c.requires.next in
    let all = waiting-costs cost plan st t c.requires.place waits c.requires.script c.requires.asks in
    let probes = c.in_err-look_up.ensures.probes store in
    omega (arith, probes, key, all)

pub returns-in-None-clause-spends : goal.returns-in-None-clause-spends
returns-in-None-clause-spends g c store =
    let plan = c.args.plan.now in
    let t = c.args.place in
    let st = states c.args.board.now.core in
    let later = states c.miss.new.self.core in
    let waits = board-waits plan c.args.board.now c.requires.board t c.requires.next in
    let cost = g.C.Cache.cost c.args.cache.now in
    let key = ap cost c.requires.key in
    let less = subst (λ s. still_costs cost plan s + cost (key_of plan.listing t)
    ≤ still_costs cost plan st) (sym c.miss.ensures.states)
    (look-less cost plan st t Missed c.requires.place waits refl c.requires.script
    c.requires.asks) in
    let same = costs-same cost (g.C.Cache.cost c.look_up.new.cache) plan later
    (c.in_ok-look_up.ensures.reads.cost_same store) in
    let probes = c.in_ok-look_up.ensures.probes store in
    omega (arith, probes, key, less, same)

pub returns-in-None-clause-spent : goal.returns-in-None-clause-spent
returns-in-None-clause-spent g c store =
    let plan = c.args.plan.now in
    let t = c.args.place in
    let st = states c.args.board.now.core in
    let cost = g.C.Cache.cost c.args.cache.now in
    let key = ap cost c.requires.key in
    let waits = board-waits plan c.args.board.now c.requires.board t c.requires.next in
    let all = waiting-costs cost plan st t c.requires.place waits c.requires.script c.requires.asks in
    let probes = c.in_ok-look_up.ensures.probes store in
    omega (arith, probes, key, all)

pub returns-in_err-digits-in-Some-clause-spent : goal.returns-in_err-digits-in-Some-clause-spent
returns-in_err-digits-in-Some-clause-spent g c store =
    let plan = c.args.plan.now in
    let t = c.args.place in
    let st = states c.args.board.now.core in
    let cost = g.C.Cache.cost c.args.cache.now in
    let key = ap cost c.requires.key in
    let waits = board-waits plan c.args.board.now c.requires.board t c.requires.next in
    let all = waiting-costs cost plan st t c.requires.place waits c.requires.script c.requires.asks in
    let spans = rw c.in-Some.is at (c.in_ok-look_up.ensures.spans store) in
    let probes = c.in_err-digits-in-Some.ensures.probes in
    omega (arith, probes, spans, key, all)

pub returns-in_ok-digits-in-Some-clause-spends : goal.returns-in_ok-digits-in-Some-clause-spends
returns-in_ok-digits-in-Some-clause-spends g c store =
    let plan = c.args.plan.now in
    let t = c.args.place in
    let st = states c.args.board.now.core in
    let later = states c.hit.new.self.core in
    let waits = board-waits plan c.args.board.now c.requires.board t c.requires.next in
    let cost = g.C.Cache.cost c.args.cache.now in
    let key = ap cost c.requires.key in
    let less = subst (λ s. still_costs cost plan s + cost (key_of plan.listing t)
    ≤ still_costs cost plan st) (sym c.hit.ensures.states)
    (look-less cost plan st t Passed c.requires.place waits refl c.requires.script
    c.requires.asks) in
    let same = costs-same cost (g.C.Cache.cost c.replay.new.cache) plan later
    (λ k. c.in_ok-digits-in-Some.ensures.reads.cost_same store k
    ∙ c.in_ok-look_up.ensures.reads.cost_same store k) in
    let spans = rw c.in-Some.is at (c.in_ok-look_up.ensures.spans store) in
    let probes = c.in_ok-digits-in-Some.ensures.probes in
    omega (arith, probes, spans, key, less, same)

pub returns-in_ok-digits-in-Some-clause-spent : goal.returns-in_ok-digits-in-Some-clause-spent
returns-in_ok-digits-in-Some-clause-spent g c store =
    let plan = c.args.plan.now in
    let t = c.args.place in
    let st = states c.args.board.now.core in
    let cost = g.C.Cache.cost c.args.cache.now in
    let key = ap cost c.requires.key in
    let waits = board-waits plan c.args.board.now c.requires.board t c.requires.next in
    let all = waiting-costs cost plan st t c.requires.place waits c.requires.script c.requires.asks in
    let spans = rw c.in-Some.is at (c.in_ok-look_up.ensures.spans store) in
    let probes = c.in_ok-digits-in-Some.ensures.probes in
    omega (arith, probes, spans, key, all)
