use Rattle.std.proofs.Common.{◌≡◌, ◌∙◌, ap, sym, refl, subst, arith}
use Rattle.std.proofs.lemmas.Result.{err_from_is_err_and}
use Rattle.spawn_dev.specs.declared.command.Step.TheVariants.{End}
use Rattle.run_core.specs.declared.states.Next.TheVariants as turn
use Rattle.run_core.specs.Core.{states}
use Rattle.run_core.specs.Machine.{runs, is_done}
use Rattle.run_core.proofs.Turns.{next-tells}
use Rattle.run_plan.specs.Openings.{rules_of}
use Rattle.run_plan.specs.StoryLaws.{EndIs, after_this}
use Rattle.runner.specs.Ends.{IsKeptOf, with_log}
use Rattle.runner.specs.Halting.{HaltsFrom}
use Rattle.run_board.specs.Progress.{now_of}
use Rattle.runner.proofs.CacheFacts.{cache-none, grows-same, safe-none}
use Rattle.runner.proofs.EndFacts.{as-put, no-more, safe-end, safe-ended}
use Rattle.runner.proofs.FileFacts.{elsewhere-over, undone-over}
use Rattle.runner.proofs.FinishFacts.{end-below, end-ours, end-running, end-script, end-undone, end-world, ends-now}
use Rattle.runner.proofs.GoesFacts.{safe-steps}
use Rattle.runner.proofs.HaltFacts.{halts-early, halts-ended, lived}
use Rattle.runner.proofs.HeldFacts.{declared-free, log-free}
use Rattle.runner.proofs.StartFacts.{gone-at, rest-will}
use Rattle.run_board.proofs.StoryFacts.{become}
use Rattle.run_board.proofs.TurnFacts.{board-next}
use Rattle.runner.proofs.WorldFacts.{step-ended}
mod Stops
use Rattle.runner.proofs.ending.finish.Goals as goal

pub wait-requires : goal.wait-requires
wait-requires g c =
    let board = c.args.board.now in
    let w = next-tells.wait (rules_of c.args.plan.now) (states board.core)
    (board-next c.args.plan.now board c.requires.board turn.WaitFirst c.requires.next) in
    (w.0, c.requires.steps.live_is w.0 ∙ ap runs w.2)

-- ---- no end came

pub returns-in_err-ended-clause-world : goal.returns-in_err-ended-clause-world
returns-in_err-ended-clause-world g c =
    let plan = c.args.plan.now in
    let old = g.W.Spawner.runs c.args.world.now in
    let new = g.W.Spawner.runs c.wait.new.world in
    let wait = c.in_err-ended.ensures in
    record {
      book = wait.book;
      ours = end-ours plan c.requires.plan c.args.board.now old new (g.W.Tree.state c.args.world.now)
          (g.W.Tree.state c.wait.new.world) c.requires.steps wait.failed.0 wait.failed.1;
      further = λ told. grows-same old.steps new.steps wait.unsaid;
      elsewhere = λ told. elsewhere-over plan old new wait.failed.0 _ _ c.requires.steps.ours
          wait.failed.1;
    }

pub returns-in_err-ended-clause-cache : goal.returns-in_err-ended-clause-cache
returns-in_err-ended-clause-cache g c =
    cache-none g.C.Cache.state g.C.Cache.moment g.C.Cache.left g.C.Cache.says g.C.Cache.tells
    c.args.cache.now
    (λ store image left. g.met.C.Cache.at_rest c.args.cache.now image store c.requires.whole left)

-- ---- an end came

pub sound-sound-requires : goal.sound-sound-requires
sound-sound-requires g c = record {
  place = end-below c.args.plan.now c.requires.plan c.args.board.now
      (g.W.Spawner.runs c.args.world.now) (g.W.Spawner.runs c.wait.new.world)
      (g.W.Tree.state c.args.world.now) (g.W.Tree.state c.wait.new.world) c.requires.steps
      c.in_ok-ended.ended.place c.in_ok-ended.ensures.over;
}

pub report_end-requires-clause-place : goal.report_end-requires-clause-place
report_end-requires-clause-place g c =
    end-below c.args.plan.now c.requires.plan c.args.board.now
    (g.W.Spawner.runs c.args.world.now) (g.W.Spawner.runs c.wait.new.world)
    (g.W.Tree.state c.args.world.now) (g.W.Tree.state c.wait.new.world) c.requires.steps
    c.in_ok-ended.ended.place c.in_ok-ended.ensures.over

pub report_end-requires-clause-log_free : goal.report_end-requires-clause-log_free
report_end-requires-clause-log_free g c =
    let script = end-script c.args.plan.now c.requires.plan c.args.board.now
    (g.W.Spawner.runs c.args.world.now) (g.W.Spawner.runs c.wait.new.world)
    (g.W.Tree.state c.args.world.now) (g.W.Tree.state c.wait.new.world) c.requires.steps
    c.in_ok-ended.ended.place c.in_ok-ended.ensures.over in
    let ours = end-ours c.args.plan.now c.requires.plan c.args.board.now
    (g.W.Spawner.runs c.args.world.now) (g.W.Spawner.runs c.wait.new.world)
    (g.W.Tree.state c.args.world.now) (g.W.Tree.state c.wait.new.world) c.requires.steps
    c.in_ok-ended.ended.place c.in_ok-ended.ensures.over in
    log-free c.args.plan.now c.requires.plan (states c.args.board.now.core)
    (g.W.Spawner.runs c.wait.new.world) ours (g.W.Tree.state c.wait.new.world).held
    (g.met.W.Spawner.held_by_running c.wait.new.world) c.in_ok-ended.ended.place script

pub report_end-requires-clause-free : goal.report_end-requires-clause-free
report_end-requires-clause-free g c =
    let t = c.in_ok-ended.ended.place in
    let mid = g.W.Spawner.runs c.wait.new.world in
    let script = end-script c.args.plan.now c.requires.plan c.args.board.now
    (g.W.Spawner.runs c.args.world.now) (g.W.Spawner.runs c.wait.new.world)
    (g.W.Tree.state c.args.world.now) (g.W.Tree.state c.wait.new.world) c.requires.steps
    c.in_ok-ended.ended.place c.in_ok-ended.ensures.over in
    let ours = end-ours c.args.plan.now c.requires.plan c.args.board.now
    (g.W.Spawner.runs c.args.world.now) (g.W.Spawner.runs c.wait.new.world)
    (g.W.Tree.state c.args.world.now) (g.W.Tree.state c.wait.new.world) c.requires.steps
    c.in_ok-ended.ended.place c.in_ok-ended.ensures.over in
    declared-free c.args.plan.now c.requires.plan (states c.args.board.now.core) mid ours
    (g.W.Tree.state c.wait.new.world).held (g.met.W.Spawner.held_by_running c.wait.new.world) t
    script (gone-at (g.W.Spawner.runs c.args.world.now) mid t c.in_ok-ended.ensures.over.at)

-- ---- its result was not kept

pub returns-in_err-report-clause-world : goal.returns-in_err-report-clause-world
returns-in_err-report-clause-world g c =
    end-world c.args.plan.now c.requires.plan c.args.board.now
    (g.W.Spawner.runs c.args.world.now) (g.W.Spawner.runs c.wait.new.world)
    (g.W.Tree.state c.args.world.now) (g.W.Tree.state c.wait.new.world) c.requires.steps
    c.in_ok-ended.ended.place c.in_ok-ended.ensures.over
    g.W.Tree.tells (g.W.Spawner.runs c.report_end.new.world) (g.W.Tree.state c.report_end.new.world)
    c.in_ok-ended.ended c.in_err-report.ensures.runs c.in_ok-ended.ensures.book c.in_ok-ended.ensures.ends
    c.in_err-report.ensures.others

pub returns-in_err-report-clause-spent : goal.returns-in_err-report-clause-spent
returns-in_err-report-clause-spent g c told store same last =
    absurd (no-more (g.W.Spawner.runs c.args.world.now).steps (End c.in_ok-ended.ended)
    (sym same ∙ ap (λ w. w.steps) c.in_err-report.ensures.runs ∙ (c.in_ok-ended.ensures.ends told).steps))

pub returns-in_err-report-clause-stays : goal.returns-in_err-report-clause-stays
returns-in_err-report-clause-stays g c told store same last =
    absurd (no-more (g.W.Spawner.runs c.args.world.now).steps (End c.in_ok-ended.ended)
    (sym same ∙ ap (λ w. w.steps) c.in_err-report.ensures.runs ∙ (c.in_ok-ended.ensures.ends told).steps))

-- ---- its result was kept

pub end-requires-clause-place : goal.end-requires-clause-place
end-requires-clause-place g c =
    end-below c.args.plan.now c.requires.plan c.args.board.now
    (g.W.Spawner.runs c.args.world.now) (g.W.Spawner.runs c.wait.new.world)
    (g.W.Tree.state c.args.world.now) (g.W.Tree.state c.wait.new.world) c.requires.steps
    c.in_ok-ended.ended.place c.in_ok-ended.ensures.over

pub end-requires-clause-running : goal.end-requires-clause-running
end-requires-clause-running g c =
    end-running c.args.plan.now c.requires.plan c.args.board.now
    (g.W.Spawner.runs c.args.world.now) (g.W.Spawner.runs c.wait.new.world)
    (g.W.Tree.state c.args.world.now) (g.W.Tree.state c.wait.new.world) c.requires.steps
    c.in_ok-ended.ended.place c.in_ok-ended.ensures.over

pub returns-clause-steps : goal.returns-clause-steps
returns-clause-steps g c =
    let ended = c.in_ok-ended.ended in
    let running = end-running c.args.plan.now c.requires.plan c.args.board.now
    (g.W.Spawner.runs c.args.world.now) (g.W.Spawner.runs c.wait.new.world)
    (g.W.Tree.state c.args.world.now) (g.W.Tree.state c.wait.new.world) c.requires.steps
    c.in_ok-ended.ended.place c.in_ok-ended.ensures.over in
    step-ended c.args.plan.now c.requires.plan (states c.args.board.now.core)
    (g.W.Spawner.runs c.args.world.now) (g.W.Spawner.runs c.report_end.new.world) ended.place
    ended.status (states c.end.new.self.core) c.requires.calm c.end.ensures.states running
    (ap (λ w. w.at) c.in_ok-report.ensures.runs ∙ c.in_ok-ended.ensures.over.at) c.requires.steps

pub returns-clause-stands : goal.returns-clause-stands
returns-clause-stands g c told store o stands =
    let plan = c.args.plan.now in
    let board = c.args.board.now in
    let old = g.W.Spawner.runs c.args.world.now in
    let mid = g.W.Spawner.runs c.wait.new.world in
    let new = g.W.Spawner.runs c.report_end.new.world in
    let tree = g.W.Tree.state c.args.world.now in
    let files = (g.W.Tree.state c.wait.new.world).files in
    let cache = g.C.Cache.state c.args.cache.now in
    let last = g.C.Cache.state c.report_end.new.cache in
    let now = now_of board g.W.Spawner.effect old tree cache in
    let ended = c.in_ok-ended.ended in
    let wait = c.in_ok-ended.ensures in
    let ends = wait.ends told in
    let settle = c.in_ok-report.ensures in
    let report = c.in_ok-report.report in
    let sound = c.sound-sound.result in
    let facts : EndIs plan now ended sound report.note last.pairs last.lasting last.room report =
    record {
      ends = ends-now plan c.requires.plan board c.requires.board g.W.Spawner.effect old mid tree
          files cache.pairs cache.lasting cache.room c.requires.steps ended sound c.requires.calm
          wait.over ends c.sound-sound.ensures;
      kept = subst (λ fs. IsKeptOf plan ended sound fs cache.pairs last.room last.pairs report.note)
          ends.files (settle.kept told store);
      lasts = (settle.cache.lasts store).lasting;
      within = g.met.C.Cache.within c.report_end.new.cache store;
      less = settle.cache.keeps.room;
      report_is = settle.report;
    } in
    let story = c.story_law.ensures.end plan o now ended sound report.note new.will last.pairs
    last.lasting last.room report stands c.requires.calm
    (board-next plan board c.requires.board turn.WaitFirst c.requires.next) facts
    (rest-will plan (states board.core) ended.place old mid new settle.runs c.requires.steps
    wait.over.at wait.others) in
    become plan o now (after_this plan now ended new.will last.pairs last.lasting last.room report)
    (now_of c.end.new.self g.W.Spawner.effect new (g.W.Tree.state c.report_end.new.world) last) stands
    (sym c.end.ensures.states)
    (ap g.W.Spawner.effect (sym (ap (λ w. w.book) settle.runs ∙ wait.book)))
    (sym (ap (λ w. w.steps) settle.runs ∙ ends.steps)) refl
    (sym (settle.logged told ∙ ap (with_log plan ended) ends.files)) refl refl refl
    (sym c.end.ensures.reports) (sym c.end.ensures.logs) (sym c.end.ensures.shown) story

pub returns-clause-world : goal.returns-clause-world
returns-clause-world g c =
    end-world c.args.plan.now c.requires.plan c.args.board.now
    (g.W.Spawner.runs c.args.world.now) (g.W.Spawner.runs c.wait.new.world)
    (g.W.Tree.state c.args.world.now) (g.W.Tree.state c.wait.new.world) c.requires.steps
    c.in_ok-ended.ended.place c.in_ok-ended.ensures.over
    g.W.Tree.tells (g.W.Spawner.runs c.report_end.new.world) (g.W.Tree.state c.report_end.new.world)
    c.in_ok-ended.ended c.in_ok-report.ensures.runs c.in_ok-ended.ensures.book c.in_ok-ended.ensures.ends
    c.in_ok-report.ensures.others

pub returns-clause-stays : goal.returns-clause-stays
returns-clause-stays g c told store same last =
    absurd (no-more (g.W.Spawner.runs c.args.world.now).steps (End c.in_ok-ended.ended)
    (sym same ∙ ap (λ w. w.steps) c.in_ok-report.ensures.runs ∙ (c.in_ok-ended.ensures.ends told).steps))

pub returns-clause-spends : goal.returns-clause-spends
returns-clause-spends g c told store same last =
    absurd (no-more (g.W.Spawner.runs c.args.world.now).steps (End c.in_ok-ended.ended)
    (sym same ∙ ap (λ w. w.steps) c.in_ok-report.ensures.runs ∙ (c.in_ok-ended.ensures.ends told).steps))

pub returns-clause-spent : goal.returns-clause-spent
returns-clause-spent g c told store same last =
    absurd (no-more (g.W.Spawner.runs c.args.world.now).steps (End c.in_ok-ended.ended)
    (sym same ∙ ap (λ w. w.steps) c.in_ok-report.ensures.runs ∙ (c.in_ok-ended.ensures.ends told).steps))

pub returns-in_err-ended-clause-halts : goal.returns-in_err-ended-clause-halts
returns-in_err-ended-clause-halts = Stops.returns-in_err-ended-clause-halts

pub returns-in_err-ended-clause-left : goal.returns-in_err-ended-clause-left
returns-in_err-ended-clause-left = Stops.returns-in_err-ended-clause-left

pub returns-in_err-report-clause-left : goal.returns-in_err-report-clause-left
returns-in_err-report-clause-left = Stops.returns-in_err-report-clause-left

pub returns-in_err-report-clause-halts : goal.returns-in_err-report-clause-halts
returns-in_err-report-clause-halts = Stops.returns-in_err-report-clause-halts

pub returns-clause-left : goal.returns-clause-left
returns-clause-left = Stops.returns-clause-left
