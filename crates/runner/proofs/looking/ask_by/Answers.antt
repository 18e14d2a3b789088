use Rattle.std.specs.Prelude.{⊤}
use Rattle.std.proofs.Common.{◌≡◌, ◌+◌, ◌≤◌, ◌∙◌, ap, sym, refl, subst, None, Some, arith, inr}
use Rattle.std.proofs.lemmas.Bool.{false≢true}
use Rattle.std.proofs.lemmas.Result.{err_from_is_err_and}
use Rattle.codes.specs.Views.{found_as}
use Rattle.globs.specs.OwnedFiles.{restored}
use Rattle.cache_api.specs.Calls.{reads_then}
use Rattle.cache_api.specs.Found.{found}
use Rattle.cache_api.specs.Reading.{artifact_in}
use Rattle.page.specs.declared.blocks.Mark.TheVariants as printed_mark
use Rattle.page.specs.declared.blocks.Note.TheVariants as printed_note
use Rattle.spawn_dev.specs.Spawn.{put_at}
use Rattle.run_core.specs.declared.states.Next.TheVariants as turn
use Rattle.run_core.specs.declared.states.State.TheVariants.{Passed, Missed}
use Rattle.run_core.specs.Core.{rules, states}
use Rattle.run_core.specs.Machine.{next, put, runs, is_done}
use Rattle.run_laws.specs.Ancestors.{part_at}
use Rattle.run_laws.specs.Keys.{key_of}
use Rattle.run_laws.specs.Marks.{found_for}
use Rattle.run_laws.specs.Worlds.{logged}
use Rattle.run_plan.specs.declared.report.Report.{Report}
use Rattle.run_plan.specs.Pages.{digits_of}
use Rattle.run_plan.specs.Reports.{report_in}
use Rattle.runner.specs.Costs.{still_costs}
use Rattle.run_board.specs.Progress.{now_of}
use Rattle.run_board.specs.Tables.{log_in}
use Rattle.run_board.proofs.TurnFacts.{board-next, board-waits}
use Rattle.runner.proofs.CostFacts.{costs-same, look-less, waiting-costs}
use Rattle.runner.proofs.FileFacts.{undone-only, undone-same}
use Rattle.runner.proofs.HaltFacts.{halts-here}
use Rattle.runner.proofs.HeldFacts.{free-of, log-free}
use Rattle.run_board.proofs.StoryFacts.{become}
use Rattle.runner.proofs.WorldFacts.{step-same, step-looked}
mod Costs
use Rattle.runner.proofs.looking.ask_by.Goals as goal

pub returns-in_err-look_up-clause-halts : goal.returns-in_err-look_up-clause-halts
returns-in_err-look_up-clause-halts g c told store =
    let tree = g.W.Tree.state c.args.world.now in
    let cache = g.C.Cache.state c.args.cache.now in
    let new = g.C.Cache.state c.look_up.new.cache in
    let reads = c.in_err-look_up.ensures.reads in
    let p = err_from_is_err_and c.from_residual.result c.from_residual.ensures.1 in
    rw p.1 (halts-here c.args.plan.now c.halt_law.ensures c.args.board.now g.W.Spawner.effect
    (g.W.Spawner.runs c.args.world.now) tree cache.pairs cache.lasting cache.room c.requires.steps
    (g.W.Spawner.runs c.args.world.now) tree.files new.pairs new.lasting new.room ⊤ refl
    (undone-same c.args.plan.now (states c.args.board.now.core) tree.files tree.files refl)
    (reads.pairs store) (omega (arith, reads.lasting store)) reads.keeps.room)

pub returns-in-None-clause-steps : goal.returns-in-None-clause-steps
returns-in-None-clause-steps g c =
    let plan = c.args.plan.now in
    let st = states c.args.board.now.core in
    let waits = board-waits plan c.args.board.now c.requires.board c.args.place c.requires.next in
    step-looked plan c.requires.plan st (g.W.Spawner.runs c.args.world.now) c.args.place Missed
    (states c.miss.new.self.core) c.miss.ensures.states waits refl
    (λ h. c.requires.script) c.requires.steps

pub returns-in-None-clause-stands : goal.returns-in-None-clause-stands
returns-in-None-clause-stands g c told store o stands =
    let plan = c.args.plan.now in
    let t = c.args.place in
    let st = states c.args.board.now.core in
    let is = board-next plan c.args.board.now c.requires.board (turn.Lookup t) c.requires.next in
    let world = g.W.Spawner.runs c.args.world.now in
    let tree = g.W.Tree.state c.args.world.now in
    let cache = g.C.Cache.state c.args.cache.now in
    let new = g.C.Cache.state c.look_up.new.cache in
    let now = now_of c.args.board.now g.W.Spawner.effect world tree cache in
    let look = c.in_ok-look_up.ensures in
    let key = c.requires.key in
    let outs = c.part.ensures in
    let none : found_for cache.pairs plan.listing t ≡ None =
    sym (look.found store ∙ (λ i. found artifact_in (key i) (outs i).outs cache.pairs))
    ∙ ap (found_as (g.C.Cache.shows c.look_up.new.cache)) c.in-None.is in
    let story = c.story_law.ensures.miss plan o now t new.room stands is c.requires.script
    look.reads.keeps.room (inr none) in
    become plan o now (record now { states = put st t Missed; room = new.room })
    (now_of c.miss.new.self g.W.Spawner.effect world tree new) stands
    (sym c.miss.ensures.states) refl refl refl refl (sym (look.reads.pairs store))
    (sym (look.reads.lasting store)) refl (sym c.miss.ensures.reports) (sym c.miss.ensures.logs)
    (sym c.miss.ensures.shown) story

pub replay-requires-clause-free : goal.replay-requires-clause-free
replay-requires-clause-free g c =
    let plan = c.args.plan.now in
    let st = states c.args.board.now.core in
    let waits = board-waits plan c.args.board.now c.requires.board c.args.place c.requires.next in
    free-of plan c.requires.plan st (g.W.Spawner.runs c.args.world.now) c.requires.steps.ours
    (g.W.Tree.state c.args.world.now).held (g.met.W.Spawner.held_by_running c.args.world.now)
    c.args.place c.requires.script (c.requires.steps.live_is c.args.place ∙ ap runs waits)

pub replay-requires-clause-log_free : goal.replay-requires-clause-log_free
replay-requires-clause-log_free g c =
    log-free c.args.plan.now c.requires.plan (states c.args.board.now.core)
    (g.W.Spawner.runs c.args.world.now) c.requires.steps.ours
    (g.W.Tree.state c.args.world.now).held (g.met.W.Spawner.held_by_running c.args.world.now)
    c.args.place c.requires.script

pub returns-in_err-digits-in-Some-clause-halts : goal.returns-in_err-digits-in-Some-clause-halts
returns-in_err-digits-in-Some-clause-halts g c told store =
    let plan = c.args.plan.now in
    let t = c.args.place in
    let st = states c.args.board.now.core in
    let waits = board-waits plan c.args.board.now c.requires.board t c.requires.next in
    let tree = g.W.Tree.state c.args.world.now in
    let files = (g.W.Tree.state c.replay.new.world).files in
    let cache = g.C.Cache.state c.args.cache.now in
    let new = g.C.Cache.state c.replay.new.cache in
    let first = c.in_ok-look_up.ensures.reads in
    let replay = c.in_err-digits-in-Some.ensures in
    let p = err_from_is_err_and c.from_residual-in_err-digits-in-Some.result
    c.from_residual-in_err-digits-in-Some.ensures.1 in
    rw p.1 (halts-here plan c.halt_law.ensures c.args.board.now g.W.Spawner.effect
    (g.W.Spawner.runs c.args.world.now) tree cache.pairs cache.lasting cache.room c.requires.steps
    (g.W.Spawner.runs c.replay.new.world) files new.pairs new.lasting new.room ⊤ replay.runs
    (undone-only plan st t tree.files files c.requires.script
    (ap is_done waits) (replay.others told))
    (replay.reads.pairs store ∙ first.pairs store)
    (omega (arith, first.lasting store, replay.reads.lasting store))
    (omega (arith, first.keeps.room, replay.reads.keeps.room)))

pub returns-in_ok-digits-in-Some-clause-steps : goal.returns-in_ok-digits-in-Some-clause-steps
returns-in_ok-digits-in-Some-clause-steps g c =
    let plan = c.args.plan.now in
    let st = states c.args.board.now.core in
    let later = states c.hit.new.self.core in
    let old = g.W.Spawner.runs c.args.world.now in
    let waits = board-waits plan c.args.board.now c.requires.board c.args.place c.requires.next in
    step-same plan c.requires.plan later old (g.W.Spawner.runs c.replay.new.world)
    c.in_ok-digits-in-Some.ensures.runs
    (step-looked plan c.requires.plan st old c.args.place Passed later c.hit.ensures.states
    waits refl (λ h. absurd (false≢true h)) c.requires.steps)

pub returns-in_ok-digits-in-Some-clause-stands : goal.returns-in_ok-digits-in-Some-clause-stands
returns-in_ok-digits-in-Some-clause-stands g c told store o stands =
    let plan = c.args.plan.now in
    let t = c.args.place in
    let part = part_at plan.listing t in
    let st = states c.args.board.now.core in
    let is = board-next plan c.args.board.now c.requires.board (turn.Lookup t) c.requires.next in
    let old = g.W.Spawner.runs c.args.world.now in
    let new = g.W.Spawner.runs c.replay.new.world in
    let tree = g.W.Tree.state c.args.world.now in
    let cache = g.C.Cache.state c.args.cache.now in
    let last = g.C.Cache.state c.replay.new.cache in
    let now = now_of c.args.board.now g.W.Spawner.effect old tree cache in
    let look = c.in_ok-look_up.ensures in
    let replay = c.in_ok-digits-in-Some.ensures in
    let a = g.C.Cache.shows c.look_up.new.cache c.in-Some.hit in
    let key = c.requires.key in
    let outs = c.part.ensures in
    let some : found_for cache.pairs plan.listing t ≡ Some a =
    sym (look.found store ∙ (λ i. found artifact_in (key i) (outs i).outs cache.pairs))
    ∙ ap (found_as (g.C.Cache.shows c.look_up.new.cache)) c.in-Some.is in
    let report : Report = record {
      mark = printed_mark.Hit;
      digits = digits_of plan t;
      status = 0;
      note = printed_note.Stored;
    } in
    let story = c.story_law.ensures.hit plan o now t last.room a stands is c.requires.script
    (omega (arith, look.reads.keeps.room, replay.reads.keeps.room)) c.requires.asks some in
    become plan o now
    (record now {
      states = put st t Passed;
      files = logged part a.0 (restored part.outs a.1 tree.files);
      room = last.room;
      reports = put_at now.reports t (Some report);
      logs = put_at now.logs t a.0;
    })
    (now_of c.hit.new.self g.W.Spawner.effect new (g.W.Tree.state c.replay.new.world) last) stands
    (sym c.hit.ensures.states)
    (ap (λ w. g.W.Spawner.effect w.book) (sym replay.runs))
    (ap (λ w. w.steps) (sym replay.runs)) (ap (λ w. w.will) (sym replay.runs))
    (sym (replay.replayed told store)) (sym (replay.reads.pairs store ∙ look.reads.pairs store))
    (sym (replay.reads.lasting store ∙ look.reads.lasting store)) refl
    (sym (c.hit.ensures.reports ∙ (λ i. put_at now.reports t (Some (record {
      mark = printed_mark.Hit;
      digits = replay.digits i;
      status = 0;
      note = printed_note.Stored;
    })))))
    (sym (c.hit.ensures.logs ∙ (λ i. put_at now.logs t (replay.log store i))))
    (sym c.hit.ensures.shown) story

pub returns-in_err-digits-in-Some-clause-reads : goal.returns-in_err-digits-in-Some-clause-reads
returns-in_err-digits-in-Some-clause-reads g c =
    reads_then g.C.Cache.tells g.C.Cache.state g.C.Cache.cost g.C.Cache.stands g.C.Cache.shows
    g.C.Cache.moment g.C.Cache.left g.C.Cache.says c.args.cache.now c.look_up.new.cache
    c.replay.new.cache c.in_ok-look_up.ensures.reads c.in_err-digits-in-Some.ensures.reads

pub returns-in_ok-digits-in-Some-clause-reads : goal.returns-in_ok-digits-in-Some-clause-reads
returns-in_ok-digits-in-Some-clause-reads g c =
    reads_then g.C.Cache.tells g.C.Cache.state g.C.Cache.cost g.C.Cache.stands g.C.Cache.shows
    g.C.Cache.moment g.C.Cache.left g.C.Cache.says c.args.cache.now c.look_up.new.cache
    c.replay.new.cache c.in_ok-look_up.ensures.reads c.in_ok-digits-in-Some.ensures.reads

pub returns-in_err-look_up-clause-spent : goal.returns-in_err-look_up-clause-spent
returns-in_err-look_up-clause-spent = Costs.returns-in_err-look_up-clause-spent

pub returns-in-None-clause-spends : goal.returns-in-None-clause-spends
returns-in-None-clause-spends = Costs.returns-in-None-clause-spends

pub returns-in-None-clause-spent : goal.returns-in-None-clause-spent
returns-in-None-clause-spent = Costs.returns-in-None-clause-spent

pub returns-in_err-digits-in-Some-clause-spent : goal.returns-in_err-digits-in-Some-clause-spent
returns-in_err-digits-in-Some-clause-spent = Costs.returns-in_err-digits-in-Some-clause-spent

pub returns-in_ok-digits-in-Some-clause-spends : goal.returns-in_ok-digits-in-Some-clause-spends
returns-in_ok-digits-in-Some-clause-spends = Costs.returns-in_ok-digits-in-Some-clause-spends

pub returns-in_ok-digits-in-Some-clause-spent : goal.returns-in_ok-digits-in-Some-clause-spent
returns-in_ok-digits-in-Some-clause-spent = Costs.returns-in_ok-digits-in-Some-clause-spent
