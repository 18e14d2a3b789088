-- The line of the fault stands behind the torn page.
use Rattle.std.proofs.Common.{sym, subst}
use Rattle.run_plan.specs.Answers.{Stopped}
use Rattle.runner.specs.Answers.{IsSettled, cause_of, opening_of}
use Rattle.answers.specs.Facts.{if_fault}
use Rattle.answers.specs.Answers.{HasRunCause, counts_at}
use Rattle.cache_runs.specs.Stops.{StopsOver}
use Rattle.cache_runs.proofs.Causes.{cause_told}
use Rattle.cache_runs.proofs.Losing.{unsaid}
use Rattle.cache_runs.proofs.running.run_live.Goals as goal

pub returns-in-Err-clause-stopped : goal.returns-in-Err-clause-stopped
returns-in-Err-clause-stopped g c told store heard ready =
    let plan = c.args.plan.now in
    let o = opening_of g.W.Spawner.effect (g.W.Spawner.runs c.args.world.now) (g.W.Tree.state c.args.world.now) (g.C.Cache.state c.args.cache.now) in
    let files = (g.W.Tree.state c.run.new.world).files in
    let cache = g.C.Cache.state c.run.new.cache in
    let steps = (g.W.Spawner.runs c.run.new.world).steps in
    let before = g.K.Sink.written c.args.out.now in
    let printed = g.K.Sink.written c.run.new.out in
    let stops = unsaid plan o (IsSettled c.in-Err.fault (g.C.Cache.state c.args.cache.now) cache) files cache.pairs cache.room steps (cause_of c.in-Err.fault) g.K.Sink.tells before printed (c.in-Err.ensures.stopped told store ready) in
    if_fault c.stopped.result _
    (StopsOver plan o files cache.pairs cache.room steps g.K.Sink.tells before
    (g.K.Sink.written c.stopped.new.out))
    (λ cause line h. (printed, subst (λ e. Stopped plan o ⊥ files cache.pairs cache.room steps e g.K.Sink.tells before printed) (sym h.0) stops, h.1))
    (c.stopped.ensures.told heard)

pub returns-in-Err-clause-cause : goal.returns-in-Err-clause-cause
returns-in-Err-clause-cause g c =
    let tree = g.W.Tree.state c.args.world.now in
    let runs = g.W.Spawner.runs c.args.world.now in
    let cache = g.C.Cache.state c.args.cache.now in
    let sink = g.K.Sink.faults c.args.out.now in
    let tree' = g.W.Tree.state c.run.new.world in
    let runs' = g.W.Spawner.runs c.run.new.world in
    let cache' = g.C.Cache.state c.run.new.cache in
    let told = g.K.Sink.faults c.stopped.new.out in
    subst (λ answer. HasRunCause (counts_at tree runs cache.faults sink)
    (counts_at tree' runs' cache'.faults told) answer) (sym c.stopped.ensures.answer)
    (cause_told tree.faults cache.faults runs.faults sink tree'.faults cache'.faults runs'.faults
    (g.K.Sink.faults c.run.new.out) told c.in-Err.fault c.in-Err.ensures.cause
    c.stopped.ensures.later c.stopped.ensures.sink c.stopped.ensures.memory)
