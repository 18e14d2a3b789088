use Rattle.std.proofs.Common.{◌≡◌, ◌++◌, ◌∙◌, ap, refl, subst, append_assoc, length, arith, inl, inr}
use Rattle.std.proofs.lemmas.Bool.{cases_Bool}
use Rattle.std.proofs.lemmas.Result.{err_from_is_err_and}
use Rattle.cache_api.specs.Pairs.{AreFirst}
use Rattle.run_core.specs.Core.{states}
use Rattle.run_core.specs.Machine.{runs, is_done}
use Rattle.run_core.proofs.Turns.{next-tells}
use Rattle.run_plan.specs.Openings.{setting_of, rules_of}
use Rattle.run_plan.specs.Pages.{blocks}
use Rattle.run_plan.specs.Reports.{report_in, worst_by, summary_by}
use Rattle.run_plan.specs.Stories.{notes_in}
use Rattle.run_plan.specs.StoryLaws.{blocks_upto}
use Rattle.run_plan.proofs.Closing.{script-below}
use Rattle.runner.specs.Answers.{opening_of}
use Rattle.run_board.specs.Progress.{now_of, with_board}
use Rattle.runner.specs.Running.{is_begun}
use Rattle.runner.proofs.CacheFacts.{cache-none, safe-none}
use Rattle.runner.proofs.CostFacts.{all-wait}
use Rattle.runner.proofs.FileFacts.{undone-same}
use Rattle.runner.proofs.GoesFacts.{world-none}
use Rattle.runner.proofs.HaltFacts.{halts-here}
use Rattle.run_board.proofs.PageFacts.{torn-none}
use Rattle.runner.proofs.RoundFacts.{current-first, halts-zero, ours-idle, page-first, stands-first, stands-zero, zero}
use Rattle.runner.proofs.WorldFacts.{running-is}
mod Ran
use Rattle.runner.proofs.running.run_through.Goals as goal

-- ---- no tables

pub returns-in_err-board-clause-world : goal.returns-in_err-board-clause-world
returns-in_err-board-clause-world g c =
    world-none g.W.Tree.tells c.args.plan.now (g.W.Spawner.runs c.args.world.now)
    (g.W.Tree.state c.args.world.now)
    (ours-idle c.args.plan.now (g.W.Spawner.runs c.args.world.now) c.requires.idle)

pub returns-in_err-board-clause-cache : goal.returns-in_err-board-clause-cache
returns-in_err-board-clause-cache g c =
    cache-none g.C.Cache.state g.C.Cache.moment g.C.Cache.left g.C.Cache.says g.C.Cache.tells
    c.args.cache.now
    (λ store image left. g.met.C.Cache.at_rest c.args.cache.now image store c.requires.whole left)

pub returns-in_err-board-clause-stops : goal.returns-in_err-board-clause-stops
returns-in_err-board-clause-stops g c told store ready =
    let plan = c.args.plan.now in
    let law = c.story_law.ensures in
    let valid = c.requires.plan in
    let effect = g.W.Spawner.effect in
    let world = g.W.Spawner.runs c.args.world.now in
    let tree = g.W.Tree.state c.args.world.now in
    let cache = g.C.Cache.state c.args.cache.now in
    let o = opening_of effect world tree cache in
    let now = zero plan law valid effect world tree cache ready in
    let p = err_from_is_err_and c.from_residual.result c.from_residual.ensures.1 in
    rw (p.1, p.2) (record {
      now = now;
      stands = stands-zero plan law valid effect world tree cache ready;
      halts = halts-zero plan law valid effect world tree cache ready c.halt_law.ensures
          c.requires.idle (c.requires.last store) _;
      page_is = λ heard. torn-none plan o (notes_in now.reports) _ (g.K.Sink.written c.args.out.now);
    })

pub returns-in_err-board-clause-left : goal.returns-in_err-board-clause-left
returns-in_err-board-clause-left g c told store ready =
    let plan = c.args.plan.now in
    let world = g.W.Spawner.runs c.args.world.now in
    let tree = g.W.Tree.state c.args.world.now in
    let cache = g.C.Cache.state c.args.cache.now in
    let o = opening_of g.W.Spawner.effect world tree cache in
    safe-none g.C.Cache.state g.C.Cache.moment g.C.Cache.left g.C.Cache.says plan o world.steps
    c.args.cache.now
    (λ image left. g.met.C.Cache.at_rest c.args.cache.now image store c.requires.whole left)
    (λ pairs first. c.halt_law.ensures.safe plan o _ pairs (stands-zero plan c.story_law.ensures
    c.requires.plan g.W.Spawner.effect world tree cache ready)
    (subst (λ n. AreFirst n cache.pairs pairs) (c.requires.last store) first))

-- ---- rounds

pub rounds-requires-clause-current : goal.rounds-requires-clause-current
rounds-requires-clause-current g c =
    let board = c.in_ok-board.ensures in
    current-first c.args.plan.now c.in_ok-board.board board.board board.states board.shown

pub returns-in_err-rounds-clause-stops : goal.returns-in_err-rounds-clause-stops
returns-in_err-rounds-clause-stops g c told store ready =
    let plan = c.args.plan.now in
    let law = c.story_law.ensures in
    let valid = c.requires.plan in
    let effect = g.W.Spawner.effect in
    let world = g.W.Spawner.runs c.args.world.now in
    let tree = g.W.Tree.state c.args.world.now in
    let cache = g.C.Cache.state c.args.cache.now in
    let o = opening_of effect world tree cache in
    let board = c.in_ok-board.board in
    let is = c.in_ok-board.ensures in
    let before = g.K.Sink.written c.args.out.now in
    let p = err_from_is_err_and c.from_residual-in_err-rounds.result
    c.from_residual-in_err-rounds.ensures.1 in
    rw (p.1, p.2) (c.in_err-rounds.ensures.stops told store o before
    (stands-first plan law valid effect world tree cache ready
    (c.requires.last store) board is.states is.reports is.shown)
    (λ heard. page-first plan law valid effect world tree cache ready
    (c.requires.last store) board is.states is.reports
    is.shown before))

pub returns-in_err-rounds-clause-left : goal.returns-in_err-rounds-clause-left
returns-in_err-rounds-clause-left g c told store ready =
    let plan = c.args.plan.now in
    let world = g.W.Spawner.runs c.args.world.now in
    let tree = g.W.Tree.state c.args.world.now in
    let cache = g.C.Cache.state c.args.cache.now in
    let o = opening_of g.W.Spawner.effect world tree cache in
    let is = c.in_ok-board.ensures in
    c.in_err-rounds.ensures.left told store o (stands-first plan c.story_law.ensures c.requires.plan
    g.W.Spawner.effect world tree cache ready (c.requires.last store) c.in_ok-board.board is.states is.reports
    is.shown)

pub returns-in_err-rounds-clause-bounded : goal.returns-in_err-rounds-clause-bounded
returns-in_err-rounds-clause-bounded g c told store same =
    let cost = g.C.Cache.cost c.args.cache.now in
    let all = all-wait cost c.args.plan.now (states c.in_ok-board.board.core)
    c.in_ok-board.ensures.states in
    let spent = c.in_err-rounds.ensures.spent told store same (c.requires.last store) in
    omega (arith, all, spent)

-- ---- the end of the page

pub returns-in_err-conclude-clause-stops : goal.returns-in_err-conclude-clause-stops
returns-in_err-conclude-clause-stops g c told store ready =
    let plan = c.args.plan.now in
    let law = c.story_law.ensures in
    let valid = c.requires.plan in
    let effect = g.W.Spawner.effect in
    let old = g.W.Spawner.runs c.args.world.now in
    let old_tree = g.W.Tree.state c.args.world.now in
    let old_cache = g.C.Cache.state c.args.cache.now in
    let o = opening_of effect old old_tree old_cache in
    let board = c.in_ok-board.board in
    let is = c.in_ok-board.ensures in
    let before = g.K.Sink.written c.args.out.now in
    let first = stands-first plan law valid effect old old_tree old_cache ready
    (c.requires.last store) board is.states
    is.reports is.shown in
    let page = page-first plan law valid effect old old_tree old_cache ready
    (c.requires.last store) board is.states
    is.reports is.shown before in
    let world = g.W.Spawner.runs c.rounds.new.world in
    let tree = g.W.Tree.state c.rounds.new.world in
    let cache = g.C.Cache.state c.rounds.new.cache in
    let last = now_of c.rounds.new.board effect world tree cache in
    let rounds = c.in_ok-rounds.ensures in
    let stands = rounds.stands told store o first in
    let p = err_from_is_err_and c.from_residual-in_err-conclude.result
    c.from_residual-in_err-conclude.ensures.1 in
    rw (p.1, p.2) (record {
      now = last;
      stands = stands;
      halts = halts-here plan c.halt_law.ensures c.rounds.new.board effect world tree cache.pairs
          cache.lasting cache.room rounds.steps world tree.files cache.pairs cache.lasting cache.room
          _ refl (undone-same plan last.states tree.files tree.files refl) refl (omega arith)
          (omega arith) o stands;
      page_is = λ heard. c.in_err-conclude.ensures.torn heard last o before stands
          (rounds.page told store heard o before first page) (inr rounds.over);
    })

pub returns-in_err-conclude-clause-left : goal.returns-in_err-conclude-clause-left
returns-in_err-conclude-clause-left g c told store ready =
    let plan = c.args.plan.now in
    let world = g.W.Spawner.runs c.args.world.now in
    let tree = g.W.Tree.state c.args.world.now in
    let cache = g.C.Cache.state c.args.cache.now in
    let o = opening_of g.W.Spawner.effect world tree cache in
    let is = c.in_ok-board.ensures in
    c.in_ok-rounds.ensures.left told store o (stands-first plan c.story_law.ensures c.requires.plan
    g.W.Spawner.effect world tree cache ready (c.requires.last store) c.in_ok-board.board is.states is.reports
    is.shown)

pub returns-in_err-conclude-clause-bounded : goal.returns-in_err-conclude-clause-bounded
returns-in_err-conclude-clause-bounded g c told store same =
    let cost = g.C.Cache.cost c.args.cache.now in
    let all = all-wait cost c.args.plan.now (states c.in_ok-board.board.core)
    c.in_ok-board.ensures.states in
    let spent = c.in_ok-rounds.ensures.spent told store same (c.requires.last store) in
    omega (arith, all, spent)

-- ---- a run that came to its end

pub returns-clause-idle : goal.returns-clause-idle
returns-clause-idle g c t =
    let plan = c.args.plan.now in
    let st = states c.rounds.new.board.core in
    let step = c.in_ok-rounds.ensures.steps in
    step.live_is t ∙ (elim (cases_Bool (runs (st t))) [
      | inl h ↦ next-tells.finished (rules_of plan) st t c.in_ok-rounds.ensures.over
          (script-below plan t (step.scripts t (ap is_begun (running-is (st t) h))))
      | inr h ↦ h
    ])

pub returns-clause-left : goal.returns-clause-left
returns-clause-left g c told store ready =
    let plan = c.args.plan.now in
    let world = g.W.Spawner.runs c.args.world.now in
    let tree = g.W.Tree.state c.args.world.now in
    let cache = g.C.Cache.state c.args.cache.now in
    let o = opening_of g.W.Spawner.effect world tree cache in
    let is = c.in_ok-board.ensures in
    c.in_ok-rounds.ensures.left told store o (stands-first plan c.story_law.ensures c.requires.plan
    g.W.Spawner.effect world tree cache ready (c.requires.last store) c.in_ok-board.board is.states is.reports
    is.shown)

pub returns-clause-bounded : goal.returns-clause-bounded
returns-clause-bounded g c told store same =
    let cost = g.C.Cache.cost c.args.cache.now in
    let all = all-wait cost c.args.plan.now (states c.in_ok-board.board.core)
    c.in_ok-board.ensures.states in
    let spent = c.in_ok-rounds.ensures.spent told store same (c.requires.last store) in
    omega (arith, all, spent)

pub returns-clause-ran : goal.returns-clause-ran
returns-clause-ran = Ran.returns-clause-ran
