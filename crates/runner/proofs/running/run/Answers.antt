use Rattle.std.proofs.Common.{◌∙◌, ℕ, subst, sym, arith, Err}
use Rattle.rel_path.specs.Causes.{Rose}
use Rattle.run_plan.specs.Stories.{notes_in}
use Rattle.task_devices.specs.Stops.{EndsBy, faults_of}
use Rattle.runner.specs.Answers.{IsSettled, NoneLost, opening_of}
use Rattle.runner.proofs.CacheFacts.{all-further, all-there, safe-more}
use Rattle.runner.proofs.DrainFacts.{ends-late, starts-calm}
use Rattle.runner.proofs.FileFacts.{elsewhere-then}
use Rattle.runner.proofs.LateFacts.{calm-before, calm-behind, ends-by, halts-settled, late-faults, late-first, late-goes, late-probes, late-room, late-safe, late-same, stops-as}
use Rattle.runner.proofs.RoundFacts.{grows-still}
use Rattle.runner.proofs.running.run.Goals as goal

pub returns-in-Ok-clause-lasting : goal.returns-in-Ok-clause-lasting
returns-in-Ok-clause-lasting g c store = (c.in-Ok.ensures.cache.lasts store).lasting

pub returns-in-Ok-clause-grows : goal.returns-in-Ok-clause-grows
returns-in-Ok-clause-grows g c store =
    all-there g.C.Cache.state g.C.Cache.moment g.C.Cache.left g.C.Cache.says c.args.cache.now
    c.run_through.new.cache (c.requires.last store) (c.in-Ok.ensures.cache.lasts store)

pub returns-in-Ok-clause-images : goal.returns-in-Ok-clause-images
returns-in-Ok-clause-images g c store =
    all-further g.C.Cache.state g.C.Cache.moment g.C.Cache.left g.C.Cache.says c.args.cache.now
    c.run_through.new.cache (c.requires.last store) (c.in-Ok.ensures.cache.lasts store)

-- ---- a run that did not come to its end

pub returns-in-Err-clause-keeps : goal.returns-in-Err-clause-keeps
returns-in-Err-clause-keeps g c =
    (late-goes g.C.Cache.tells g.C.Cache.state g.C.Cache.cost g.C.Cache.moment g.C.Cache.left
    g.C.Cache.says c.args.cache.now
    c.run_through.new.cache c.settle_after_fault.new.cache c.settle_after_fault.ensures
    (λ told. g.met.C.Cache.within c.run_through.new.cache told) c.in-Err.ensures.cache).keeps

pub returns-in-Err-clause-lasting : goal.returns-in-Err-clause-lasting
returns-in-Err-clause-lasting g c store =
    let goes = late-goes g.C.Cache.tells g.C.Cache.state g.C.Cache.cost g.C.Cache.moment g.C.Cache.left
    g.C.Cache.says c.args.cache.now
    c.run_through.new.cache c.settle_after_fault.new.cache c.settle_after_fault.ensures
    (λ told. g.met.C.Cache.within c.run_through.new.cache told) c.in-Err.ensures.cache in
    (goes.lasts store).lasting

pub returns-in-Err-clause-grows : goal.returns-in-Err-clause-grows
returns-in-Err-clause-grows g c store =
    let goes = late-goes g.C.Cache.tells g.C.Cache.state g.C.Cache.cost g.C.Cache.moment g.C.Cache.left
    g.C.Cache.says c.args.cache.now
    c.run_through.new.cache c.settle_after_fault.new.cache c.settle_after_fault.ensures
    (λ told. g.met.C.Cache.within c.run_through.new.cache told) c.in-Err.ensures.cache in
    all-there g.C.Cache.state g.C.Cache.moment g.C.Cache.left g.C.Cache.says c.args.cache.now
    c.settle_after_fault.new.cache (c.requires.last store) (goes.lasts store)

pub returns-in-Err-clause-images : goal.returns-in-Err-clause-images
returns-in-Err-clause-images g c store =
    let goes = late-goes g.C.Cache.tells g.C.Cache.state g.C.Cache.cost g.C.Cache.moment g.C.Cache.left
    g.C.Cache.says c.args.cache.now
    c.run_through.new.cache c.settle_after_fault.new.cache c.settle_after_fault.ensures
    (λ told. g.met.C.Cache.within c.run_through.new.cache told) c.in-Err.ensures.cache in
    all-further g.C.Cache.state g.C.Cache.moment g.C.Cache.left g.C.Cache.says c.args.cache.now
    c.settle_after_fault.new.cache (c.requires.last store) (goes.lasts store)

pub returns-in-Err-clause-elsewhere : goal.returns-in-Err-clause-elsewhere
returns-in-Err-clause-elsewhere g c told =
    elsewhere-then c.args.plan.now (g.W.Tree.state c.args.world.now).files
    (g.W.Tree.state c.run_through.new.world).files (g.W.Tree.state c.drain.new.world).files
    (c.in-Err.ensures.world.elsewhere told) (c.drain.ensures.world.elsewhere told)

pub returns-in-Err-clause-left : goal.returns-in-Err-clause-left
returns-in-Err-clause-left g c told store ready =
    let plan = c.args.plan.now in
    let o = opening_of g.W.Spawner.effect (g.W.Spawner.runs c.args.world.now)
    (g.W.Tree.state c.args.world.now) (g.C.Cache.state c.args.cache.now) in
    let mid = g.W.Spawner.runs c.run_through.new.world in
    let stops = c.in-Err.ensures.stops told store ready in
    safe-more g.C.Cache.state g.C.Cache.moment g.C.Cache.left g.C.Cache.says c.halt_law.ensures plan
    o mid.steps (g.W.Spawner.runs c.drain.new.world).steps c.args.cache.now
    c.settle_after_fault.new.cache (c.drain.ensures.world.further told)
    (late-safe g.C.Cache.tells g.C.Cache.state g.C.Cache.cost g.C.Cache.moment g.C.Cache.left
    g.C.Cache.says c.args.cache.now
    c.run_through.new.cache c.settle_after_fault.new.cache c.settle_after_fault.ensures
    c.halt_law.ensures plan o stops.now stops.stands mid
    (g.W.Tree.state c.run_through.new.world).files _ store c.in-Err.ensures.cache stops.halts
    (c.in-Err.ensures.left told store ready))

pub returns-in-Err-clause-bounded : goal.returns-in-Err-clause-bounded
returns-in-Err-clause-bounded g c told store same =
    let still = grows-still (g.W.Spawner.runs c.args.world.now).steps
    (g.W.Spawner.runs c.run_through.new.world).steps (g.W.Spawner.runs c.drain.new.world).steps
    (c.in-Err.ensures.world.further told) (c.drain.ensures.world.further told) same in
    let last = c.in-Err.ensures.stays told store still.0 in
    let more = late-probes g.C.Cache.tells g.C.Cache.state g.C.Cache.cost g.C.Cache.moment g.C.Cache.left
    g.C.Cache.says c.args.cache.now
    c.run_through.new.cache c.settle_after_fault.new.cache c.settle_after_fault.ensures
    store last in
    let bounded = c.in-Err.ensures.bounded told store still.0 in
    omega (arith, more, bounded)

pub returns-in-Err-clause-cause : goal.returns-in-Err-clause-cause
returns-in-Err-clause-cause g c =
    let tree = g.W.Tree.state c.args.world.now in
    let cache = g.C.Cache.state c.args.cache.now in
    let runs = g.W.Spawner.runs c.args.world.now in
    let new = g.C.Cache.state c.settle_after_fault.new.cache in
    let last = g.W.Spawner.runs c.drain.new.world in
    subst (λ n. EndsBy {T = ℕ}
    (faults_of tree.faults cache.faults runs.faults (g.K.Sink.faults c.args.out.now))
    (faults_of n new.faults last.faults (g.K.Sink.faults c.run_through.new.out))
    (Err c.in-Err.fault)) (sym c.drain.ensures.tree)
    (ends-by _ _ _ _ _ _ _ _ new.faults last.faults c.in-Err.fault c.in-Err.ensures.cause
    (late-faults g.C.Cache.tells g.C.Cache.state g.C.Cache.cost g.C.Cache.moment g.C.Cache.left
    g.C.Cache.says c.args.cache.now
    c.run_through.new.cache c.settle_after_fault.new.cache c.settle_after_fault.ensures)
    c.drain.ensures.later)

pub returns-in-Err-clause-stopped : goal.returns-in-Err-clause-stopped
returns-in-Err-clause-stopped g c told store ready =
    let plan = c.args.plan.now in
    let law = c.halt_law.ensures in
    let o = opening_of g.W.Spawner.effect (g.W.Spawner.runs c.args.world.now)
    (g.W.Tree.state c.args.world.now) (g.C.Cache.state c.args.cache.now) in
    let old = g.C.Cache.state c.args.cache.now in
    let mid = g.C.Cache.state c.run_through.new.cache in
    let new = g.C.Cache.state c.settle_after_fault.new.cache in
    let world = g.W.Spawner.runs c.run_through.new.world in
    let files = (g.W.Tree.state c.run_through.new.world).files in
    let last = (g.W.Tree.state c.drain.new.world).files in
    let steps = (g.W.Spawner.runs c.drain.new.world).steps in
    let fault = c.in-Err.fault in
    let stops = c.in-Err.ensures.stops told store ready in
    let later = late-faults g.C.Cache.tells g.C.Cache.state g.C.Cache.cost g.C.Cache.moment g.C.Cache.left
    g.C.Cache.says c.args.cache.now
    c.run_through.new.cache c.settle_after_fault.new.cache c.settle_after_fault.ensures in
    let settled = halts-settled law plan o stops.now world files mid.pairs new.pairs mid.lasting
    mid.room new.room (NoneLost fault old.faults mid.faults) (IsSettled fault old new)
    (Rose mid.faults new.faults) stops.halts
    (late-first g.C.Cache.tells g.C.Cache.state g.C.Cache.cost g.C.Cache.moment g.C.Cache.left
    g.C.Cache.says c.args.cache.now
    c.run_through.new.cache c.settle_after_fault.new.cache c.settle_after_fault.ensures store)
    (late-same g.C.Cache.tells g.C.Cache.state g.C.Cache.cost g.C.Cache.moment g.C.Cache.left
    g.C.Cache.says c.args.cache.now
    c.run_through.new.cache c.settle_after_fault.new.cache c.settle_after_fault.ensures store)
    (late-room g.C.Cache.tells g.C.Cache.state g.C.Cache.cost g.C.Cache.moment g.C.Cache.left
    g.C.Cache.says c.args.cache.now
    c.run_through.new.cache c.settle_after_fault.new.cache c.settle_after_fault.ensures)
    (λ is. record {
      output = is.kept.output;
      calm = calm-before old.faults mid.faults new.faults later is.kept.calm;
    })
    (λ is. calm-behind old.faults mid.faults new.faults _ _ _ _ _ _ fault c.in-Err.ensures.cause
    later is.kept.calm) in
    let halts = c.drain.ensures.stays told o stops.now settled.0 new.pairs new.room stops.stands
    settled.1 in
    record {
      states = stops.now.states;
      notes = notes_in stops.now.reports;
      stops = stops-as plan o _ (IsSettled fault old new) stops.now.states
          (notes_in stops.now.reports) last new.pairs new.room steps settled.2
          (law.stopped plan o stops.now settled.0 last new.pairs new.room steps stops.stands
          halts.halts.halts);
      page_is = stops.page_is;
    }

pub returns-in-Err-clause-waits : goal.returns-in-Err-clause-waits
returns-in-Err-clause-waits g c told store ready other all =
    let plan = c.args.plan.now in
    let o = opening_of g.W.Spawner.effect (g.W.Spawner.runs c.args.world.now)
    (g.W.Tree.state c.args.world.now) (g.C.Cache.state c.args.cache.now) in
    let cache = g.C.Cache.state c.run_through.new.cache in
    let mid = g.W.Spawner.runs c.run_through.new.world in
    let stops = c.in-Err.ensures.stops told store ready in
    let waits = c.drain.ensures.waits told in
    waits.calm (ends-late c.halt_law.ensures plan o stops.now stops.halts.least mid
    (g.W.Tree.state c.run_through.new.world).files cache.pairs cache.room
    (g.W.Spawner.runs c.drain.new.world).steps waits.late stops.stands stops.halts.halts
    waits.steps_are all)
    ∙ starts-calm _ _ _ _ _ _ _ _ c.in-Err.fault other c.in-Err.ensures.cause
