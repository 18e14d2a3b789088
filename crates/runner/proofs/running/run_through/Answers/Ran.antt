-- What a run leaves that came to its end.
use Rattle.std.proofs.Common.{◌≡◌, ◌++◌, ◌∙◌, ap, append_assoc, length}
use Rattle.run_core.specs.Core.{states}
use Rattle.run_core.specs.Machine.{is_done}
use Rattle.run_plan.specs.Openings.{setting_of}
use Rattle.run_plan.specs.Pages.{blocks}
use Rattle.run_plan.specs.Reports.{report_in, worst_by, summary_by}
use Rattle.run_plan.specs.Stories.{notes_in}
use Rattle.run_plan.specs.StoryLaws.{blocks_upto}
use Rattle.runner.specs.Answers.{opening_of}
use Rattle.run_board.specs.Progress.{now_of, with_board}
use Rattle.runner.proofs.RoundFacts.{page-first, stands-first}
use Rattle.runner.proofs.running.run_through.Goals as goal

-- ---- no tables

pub returns-clause-ran : goal.returns-clause-ran
returns-clause-ran g c told store ready =
    let plan = c.args.plan.now in
    let law = c.story_law.ensures in
    let effect = g.W.Spawner.effect in
    let old = g.W.Spawner.runs c.args.world.now in
    let old_tree = g.W.Tree.state c.args.world.now in
    let old_cache = g.C.Cache.state c.args.cache.now in
    let o = opening_of effect old old_tree old_cache in
    let board = c.in_ok-board.board in
    let is = c.in_ok-board.ensures in
    let before = g.K.Sink.written c.args.out.now in
    let first = stands-first plan law c.requires.plan effect old old_tree old_cache ready
    (c.requires.last store) board is.states is.reports is.shown in
    let page = page-first plan law c.requires.plan effect old old_tree old_cache ready
    (c.requires.last store) board is.states is.reports is.shown before in
    let last = now_of c.rounds.new.board effect (g.W.Spawner.runs c.rounds.new.world)
    (g.W.Tree.state c.rounds.new.world) (g.C.Cache.state c.rounds.new.cache) in
    let rounds = c.in_ok-rounds.ensures in
    let stood = rounds.stands told store o first in
    let over = law.over plan o last stood rounds.over in
    let done = c.in_ok-conclude.ensures in
    let final = c.conclude.new.board in
    let n = length plan.listing.parts in
    let size : length final.reports ≡ n = done.board.reports in
    let worst = c.worst.ensures ∙ ap (worst_by (report_in final.reports)) size
    ∙ ap (λ r. worst_by (report_in r) n) done.reports in
    record {
      mine = over.mine;
      notes = notes_in last.reports;
      steps_are = over.steps_are;
      greedy = over.greedy;
      ends = over.ends;
      leaves = over.leaves;
      noted = over.noted;
      pairs_are = over.pairs_are;
      good = over.good;
      status_is = worst ∙ over.worst_is;
      page_is = λ heard.
          let w = done.page heard last o before stood
          (rounds.page told store heard o before first page) in
          let same : blocks_upto plan o (with_board last final) final.shown
          ≡ blocks_upto plan o last n =
          λ i. blocks plan (setting_of plan o) (notes_in (report_in (done.reports i)))
          (λ t. is_done (states (done.core i) t)) (done.shown i) in
          w.2 ∙ (λ i. (w.1 ∙ ap (λ x. before ++ x) same) i
          ++ summary_by plan (report_in (done.reports i)))
          ∙ append_assoc before (blocks_upto plan o last n) (summary_by plan last.reports)
          ∙ ap (λ x. before ++ x) over.page_is;
    }
