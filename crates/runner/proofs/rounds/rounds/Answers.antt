use Rattle.std.proofs.Common.{◌≡◌, ◌+◌, ◌<◌, ◌∙◌, ℕ, Bool, true, false, cond, ap, refl, arith}
use Rattle.std.proofs.lemmas.Bool.{true≢false}
use Rattle.std.proofs.lemmas.Result.{err_from_is_err_and}
use Rattle.run_core.specs.Core.{states}
use Rattle.run_core.specs.Moves.{turns_left}
use Rattle.run_plan.specs.Openings.{rules_of}
use Rattle.runner.proofs.CacheFacts.{cache-none, cache-then, safe-none, safe-then}
use Rattle.runner.proofs.GoesFacts.{world-none, world-then}
use Rattle.runner.proofs.RoundFacts.{grows-still}
use Rattle.runner.proofs.rounds.rounds.Goals as goal

fewer : (was more : Bool) (new old : ℕ) → was ≡ true → (more ≡ true → new < old)
    → (more ≡ false → new ≡ old) → new + cond more 1 0 < old + cond was 1 0
fewer was true new old e less same = let h = less refl in rw e (omega (arith, h))
fewer was false new old e less same = let h = same refl in rw e (omega (arith, h))

pub turns-smaller : goal.turns-smaller
turns-smaller g c =
    let plan = c.args.plan.now in
    let round = c.in_ok-more.ensures.round in
    fewer c.turns.more c.in_ok-more.more (turns_left (rules_of plan) (states c.round.new.board.core))
    (turns_left (rules_of plan) (states c.turns.board.core)) c.turns-test.true round.turns
    (λ h. ap (turns_left (rules_of plan)) (round.kept h))

pub turns-init : goal.turns-init
turns-init g c = record {
  current = c.requires.current;
  over = λ h. absurd (true≢false h);
  last = λ store h. absurd (true≢false h);
  steps = c.requires.steps;
  whole = c.requires.whole;
  world = world-none g.W.Tree.tells c.args.plan.now (g.W.Spawner.runs c.args.world.now)
      (g.W.Tree.state c.args.world.now) c.requires.steps.ours;
  cache = cache-none g.C.Cache.state g.C.Cache.moment g.C.Cache.left g.C.Cache.says g.C.Cache.tells
      c.args.cache.now (λ store image left.
      g.met.C.Cache.at_rest c.args.cache.now image store c.requires.whole left);
  stands = λ told store o stands. stands;
  page = λ told store heard o before stands page. page;
  left = λ told store o stands.
      safe-none g.C.Cache.state g.C.Cache.moment g.C.Cache.left g.C.Cache.says c.args.plan.now o
      (g.W.Spawner.runs c.args.world.now).steps c.args.cache.now
      (λ image left. g.met.C.Cache.at_rest c.args.cache.now image store c.requires.whole left)
      (λ pairs first. c.halt_law.ensures.safe c.args.plan.now o _ pairs stands first);
  spends = λ told store same last. (last, omega arith);
  faults = refl;
}

pub turns-preserved : goal.turns-preserved
turns-preserved g c =
    let plan = c.args.plan.now in
    let inv = c.turns.invariant in
    let round = c.in_ok-more.ensures in
    let first = g.W.Spawner.runs c.args.world.now in
    let mid = g.W.Spawner.runs c.turns.world in
    let new = g.W.Spawner.runs c.round.new.world in
    record {
      current = round.round.current;
      over = round.round.over;
      last = λ store h. round.last store h;
      steps = round.steps;
      whole = round.whole;
      world = world-then g.W.Tree.tells plan first mid new (g.W.Tree.state c.args.world.now)
          (g.W.Tree.state c.turns.world) (g.W.Tree.state c.round.new.world) inv.world round.world;
      cache = cache-then g.C.Cache.state g.C.Cache.moment g.C.Cache.left g.C.Cache.says
          g.C.Cache.tells c.args.cache.now c.turns.cache c.round.new.cache inv.cache round.cache;
      stands = λ told store o stands. round.stands told store o (inv.stands told store o stands);
      page = λ told store heard o before stands page. round.page told store heard o before
          (inv.stands told store o stands) (inv.page told store heard o before stands page);
      left = λ told store o stands.
          safe-then g.C.Cache.state g.C.Cache.moment g.C.Cache.left g.C.Cache.says c.halt_law.ensures
          plan o mid.steps new.steps c.args.cache.now c.turns.cache c.round.new.cache inv.cache.keeps
          round.cache.keeps (round.world.further told) (inv.left told store o stands)
          (round.left told store o (inv.stands told store o stands));
      spends = λ told store same last.
          let still = grows-still first.steps mid.steps new.steps (inv.world.further told)
          (round.world.further told) same in
          let before = inv.spends told store still.0 last in
          let spent = before.1 in
          let after = round.spends told store still.1 before.0 in
          (round.stays told store still.1 before.0, omega (arith, spent, after));
      faults = round.cause ∙ inv.faults;
    }

pub returns-clause-spent : goal.returns-clause-spent
returns-clause-spent g c told store same last =
    let spends = (c.turns.invariant.spends told store same last).1 in omega (arith, spends)

pub returns-in_err-more-clause-world : goal.returns-in_err-more-clause-world
returns-in_err-more-clause-world g c =
    world-then g.W.Tree.tells c.args.plan.now (g.W.Spawner.runs c.args.world.now)
    (g.W.Spawner.runs c.turns.world) (g.W.Spawner.runs c.round.new.world)
    (g.W.Tree.state c.args.world.now) (g.W.Tree.state c.turns.world)
    (g.W.Tree.state c.round.new.world) c.turns.invariant.world c.in_err-more.ensures.world

pub returns-in_err-more-clause-cache : goal.returns-in_err-more-clause-cache
returns-in_err-more-clause-cache g c =
    cache-then g.C.Cache.state g.C.Cache.moment g.C.Cache.left g.C.Cache.says g.C.Cache.tells
    c.args.cache.now c.turns.cache c.round.new.cache c.turns.invariant.cache
    c.in_err-more.ensures.cache

pub returns-in_err-more-clause-stops : goal.returns-in_err-more-clause-stops
returns-in_err-more-clause-stops g c told store =
    let inv = c.turns.invariant in
    let p = err_from_is_err_and c.from_residual.result c.from_residual.ensures.1 in
    let faults = ap (λ f. f.store) inv.faults in
    rw (p.1, p.2, ← faults) (λ o before stands page. c.in_err-more.ensures.stops told store o before
    (inv.stands told store o stands)
    (λ heard. inv.page told store heard o before stands (page heard)))

pub returns-in_err-more-clause-left : goal.returns-in_err-more-clause-left
returns-in_err-more-clause-left g c told store o stands =
    let inv = c.turns.invariant in
    let round = c.in_err-more.ensures in
    safe-then g.C.Cache.state g.C.Cache.moment g.C.Cache.left g.C.Cache.says c.halt_law.ensures
    c.args.plan.now o (g.W.Spawner.runs c.turns.world).steps
    (g.W.Spawner.runs c.round.new.world).steps c.args.cache.now c.turns.cache c.round.new.cache
    inv.cache.keeps round.cache.keeps (round.world.further told) (inv.left told store o stands)
    (round.left told store o (inv.stands told store o stands))

pub returns-in_err-more-clause-stays : goal.returns-in_err-more-clause-stays
returns-in_err-more-clause-stays g c told store same last =
    let inv = c.turns.invariant in
    let round = c.in_err-more.ensures in
    let still = grows-still (g.W.Spawner.runs c.args.world.now).steps
    (g.W.Spawner.runs c.turns.world).steps (g.W.Spawner.runs c.round.new.world).steps
    (inv.world.further told) (round.world.further told) same in
    round.stays told store still.1 (inv.spends told store still.0 last).0

pub returns-in_err-more-clause-spent : goal.returns-in_err-more-clause-spent
returns-in_err-more-clause-spent g c told store same last =
    let inv = c.turns.invariant in
    let round = c.in_err-more.ensures in
    let still = grows-still (g.W.Spawner.runs c.args.world.now).steps
    (g.W.Spawner.runs c.turns.world).steps (g.W.Spawner.runs c.round.new.world).steps
    (inv.world.further told) (round.world.further told) same in
    let before = inv.spends told store still.0 last in
    let spent = before.1 in
    let after = round.spent told store still.1 before.0 in
    omega (arith, spent, after)
