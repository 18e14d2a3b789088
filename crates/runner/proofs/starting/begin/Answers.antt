use Rattle.std.proofs.Common.{◌∙◌, ap, sym, refl, arith, ◌++◌, ◌∷◌, []}
use Rattle.std.specs.Prelude.{⊤, is_some}
use Rattle.std.proofs.lemmas.Result.{err_from_is_err_and}
use Rattle.globs.specs.OwnedFiles.{cleared}
use Rattle.spawn_dev.specs.declared.command.Step.TheVariants.{Start}
use Rattle.spawn_dev.specs.Spawn.{live}
use Rattle.run_core.specs.declared.states.Next.TheVariants as turn
use Rattle.run_core.specs.declared.states.State.TheVariants.{Running}
use Rattle.run_core.specs.Core.{rules, states}
use Rattle.run_core.specs.Machine.{put, runs, is_done}
use Rattle.run_laws.specs.Ancestors.{part_at}
use Rattle.run_plan.specs.Commands.{command_of}
use Rattle.run_board.specs.Progress.{now_at}
use Rattle.runner.specs.Running.{is_begun}
use Rattle.run_board.proofs.TurnFacts.{board-missed, board-next}
use Rattle.runner.proofs.CacheFacts.{grows-same}
use Rattle.runner.proofs.FileFacts.{elsewhere-only, elsewhere-same, elsewhere-then, undone-only, undone-same, undone-then}
use Rattle.runner.proofs.GoesFacts.{world-same, safe-steps}
use Rattle.runner.proofs.HaltFacts.{halts-early, halts-here}
use Rattle.runner.proofs.HeldFacts.{free-of, is-fresh, is-clear, reads-free, owns-nothing}
use Rattle.runner.proofs.StartFacts.{others-will, own-will, own-steps}
use Rattle.run_board.proofs.StoryFacts.{become}
use Rattle.runner.proofs.WorldFacts.{ours-refused, ours-same, step-same, step-started}
mod Needs
use Rattle.runner.proofs.starting.begin.Goals as goal

pub returns-in_err-command-clause-halts : goal.returns-in_err-command-clause-halts
returns-in_err-command-clause-halts g c told =
    let plan = c.args.plan.now in
    let tree = g.W.Tree.state c.args.world.now in
    let p = err_from_is_err_and c.from_residual.result c.from_residual.ensures.1 in
    rw p.1 (λ pairs lasting room. halts-here plan c.halt_law.ensures c.args.board.now g.W.Spawner.effect
    (g.W.Spawner.runs c.args.world.now) tree pairs lasting room c.requires.steps
    (g.W.Spawner.runs c.args.world.now) tree.files pairs lasting room ⊤ refl
    (undone-same plan (states c.args.board.now.core) tree.files tree.files refl) refl (omega arith)
    (omega arith))

pub returns-in_err-command-clause-safe : goal.returns-in_err-command-clause-safe
returns-in_err-command-clause-safe g c told o pairs left lasting room stands first =
    c.halt_law.ensures.safe c.args.plan.now o _ left stands first

pub returns-in_err-clear_owned-clause-world : goal.returns-in_err-clear_owned-clause-world
returns-in_err-clear_owned-clause-world g c =
    let plan = c.args.plan.now in
    let t = c.args.place in
    let st = states c.args.board.now.core in
    let m = board-missed plan c.args.board.now c.requires.board t c.requires.next in
    let script = c.requires.steps.scripts t (ap is_begun m.1) in
    let clear = c.in_err-clear_owned.ensures in
    world-same g.W.Tree.tells plan (g.W.Spawner.runs c.args.world.now)
    (g.W.Spawner.runs c.clear_owned.new.world) (g.W.Tree.state c.args.world.now)
    (g.W.Tree.state c.clear_owned.new.world) clear.runs c.requires.steps.ours
    (λ told. elsewhere-only plan t _ _ script (clear.others told))

pub returns-in_err-clear_owned-clause-halts : goal.returns-in_err-clear_owned-clause-halts
returns-in_err-clear_owned-clause-halts g c told =
    let plan = c.args.plan.now in
    let t = c.args.place in
    let st = states c.args.board.now.core in
    let missed = (board-missed plan c.args.board.now c.requires.board t c.requires.next).1 in
    let clear = c.in_err-clear_owned.ensures in
    let tree = g.W.Tree.state c.args.world.now in
    let files = (g.W.Tree.state c.clear_owned.new.world).files in
    let p = err_from_is_err_and c.from_residual-in_err-clear_owned.result
    c.from_residual-in_err-clear_owned.ensures.1 in
    rw p.1 (λ pairs lasting room. halts-here plan c.halt_law.ensures c.args.board.now g.W.Spawner.effect
    (g.W.Spawner.runs c.args.world.now) tree pairs lasting room c.requires.steps
    (g.W.Spawner.runs c.clear_owned.new.world) files pairs lasting room ⊤ clear.runs
    (undone-only plan st t tree.files files (c.requires.steps.scripts t (ap is_begun missed))
    (ap is_done missed) (clear.others told)) refl (omega arith) (omega arith))

pub returns-in_err-clear_owned-clause-safe : goal.returns-in_err-clear_owned-clause-safe
returns-in_err-clear_owned-clause-safe g c told o pairs left lasting room stands first =
    safe-steps c.args.plan.now o room (g.W.Spawner.runs c.args.world.now).steps
    (g.W.Spawner.runs c.clear_owned.new.world).steps left
    (ap (λ w. w.steps) c.in_err-clear_owned.ensures.runs)
    (c.halt_law.ensures.safe c.args.plan.now o _ left stands first)

pub returns-in_err-start-clause-world : goal.returns-in_err-start-clause-world
returns-in_err-start-clause-world g c =
    let plan = c.args.plan.now in
    let t = c.args.place in
    let st = states c.args.board.now.core in
    let m = board-missed plan c.args.board.now c.requires.board t c.requires.next in
    let script = c.requires.steps.scripts t (ap is_begun m.1) in
    let old = g.W.Spawner.runs c.args.world.now in
    let mid = g.W.Spawner.runs c.clear_owned.new.world in
    let new = g.W.Spawner.runs c.start.new.world in
    let clear = c.in_ok-clear_owned.ensures in
    record {
      book = c.in_err-start.ensures.book ∙ ap (λ w. w.book) clear.runs;
      ours = ours-refused plan mid new c.in_err-start.ensures.refused
          (ours-same plan old mid clear.runs c.requires.steps.ours);
      further = λ told. grows-same old.steps new.steps
          (c.in_err-start.ensures.refused.steps ∙ ap (λ w. w.steps) clear.runs);
      elsewhere = λ told. elsewhere-then plan (g.W.Tree.state c.args.world.now).files
          (g.W.Tree.state c.clear_owned.new.world).files (g.W.Tree.state c.start.new.world).files
          (elsewhere-only plan t _ _ script (clear.others told))
          (elsewhere-same plan _ _ c.in_err-start.ensures.files);
    }

pub returns-in_err-start-clause-halts : goal.returns-in_err-start-clause-halts
returns-in_err-start-clause-halts g c told =
    let plan = c.args.plan.now in
    let t = c.args.place in
    let st = states c.args.board.now.core in
    let missed = (board-missed plan c.args.board.now c.requires.board t c.requires.next).1 in
    let clear = c.in_ok-clear_owned.ensures in
    let start = c.in_err-start.ensures in
    let tree = g.W.Tree.state c.args.world.now in
    let mid = (g.W.Tree.state c.clear_owned.new.world).files in
    let files = (g.W.Tree.state c.start.new.world).files in
    let undone = undone-then plan st tree.files mid files
    (undone-only plan st t tree.files mid (c.requires.steps.scripts t (ap is_begun missed))
    (ap is_done missed) (clear.others told)) (undone-same plan st mid files start.files) in
    let p = err_from_is_err_and c.from_residual-in_err-start.result
    c.from_residual-in_err-start.ensures.1 in
    rw p.1 (λ pairs lasting room. halts-early plan c.halt_law.ensures c.args.board.now g.W.Spawner.effect
    (g.W.Spawner.runs c.args.world.now) tree pairs lasting room c.requires.steps
    (g.W.Spawner.runs c.start.new.world) files pairs lasting room ⊤
    (λ u lives. ap (λ f. is_some (f u)) (sym (start.refused.at ∙ ap (λ w. w.at) clear.runs)) ∙ lives)
    (start.refused.steps ∙ ap (λ w. w.steps) clear.runs)
    (λ u was lives. start.others u (ap (λ w. live w u) clear.runs ∙ was) lives
    ∙ ap (λ w. w.will u) clear.runs)
    undone refl (omega arith) (omega arith))

pub returns-in_err-start-clause-safe : goal.returns-in_err-start-clause-safe
returns-in_err-start-clause-safe g c told o pairs left lasting room stands first =
    safe-steps c.args.plan.now o room (g.W.Spawner.runs c.args.world.now).steps
    (g.W.Spawner.runs c.start.new.world).steps left
    (c.in_err-start.ensures.refused.steps ∙ ap (λ w. w.steps) c.in_ok-clear_owned.ensures.runs)
    (c.halt_law.ensures.safe c.args.plan.now o _ left stands first)

pub returns-clause-steps : goal.returns-clause-steps
returns-clause-steps g c =
    let plan = c.args.plan.now in
    let st = states c.args.board.now.core in
    let m = board-missed plan c.args.board.now c.requires.board c.args.place c.requires.next in
    let mid = g.W.Spawner.runs c.clear_owned.new.world in
    let step = step-same plan c.requires.plan st (g.W.Spawner.runs c.args.world.now) mid
    c.in_ok-clear_owned.ensures.runs c.requires.steps in
    step-started plan c.requires.plan st mid (g.W.Spawner.runs c.start.new.world) c.args.place
    c.in_ok-command.command (states c.begin.new.self.core) c.begin.ensures.states m.1
    c.in_ok-command.ensures.command c.in_ok-start.ensures.started step

pub returns-clause-world : goal.returns-clause-world
returns-clause-world g c =
    let plan = c.args.plan.now in
    let t = c.args.place in
    let st = states c.args.board.now.core in
    let m = board-missed plan c.args.board.now c.requires.board t c.requires.next in
    let script = c.requires.steps.scripts t (ap is_begun m.1) in
    let old = g.W.Spawner.runs c.args.world.now in
    let mid = g.W.Spawner.runs c.clear_owned.new.world in
    let new = g.W.Spawner.runs c.start.new.world in
    let clear = c.in_ok-clear_owned.ensures in
    record {
      book = c.in_ok-start.ensures.book ∙ ap (λ w. w.book) clear.runs;
      ours = (returns-clause-steps g c).ours;
      further = λ told. (
        Start (command_of plan t) ∷ [],
        own-steps plan st t c.in_ok-command.command c.in_ok-command.ensures.command old mid new
            clear.runs c.in_ok-start.ensures.started g.W.Spawner.effect
            (g.W.Tree.state c.clear_owned.new.world).files (c.in_ok-start.ensures.begins told),
      );
      elsewhere = λ told. elsewhere-then plan (g.W.Tree.state c.args.world.now).files
          (g.W.Tree.state c.clear_owned.new.world).files (g.W.Tree.state c.start.new.world).files
          (elsewhere-only plan t _ _ script (clear.others told))
          (elsewhere-same plan _ _ c.in_ok-start.ensures.files);
    }

pub returns-clause-stands : goal.returns-clause-stands
returns-clause-stands g c told pairs lasting room o stands =
    let plan = c.args.plan.now in
    let t = c.args.place in
    let st = states c.args.board.now.core in
    let is = board-next plan c.args.board.now c.requires.board (turn.Start t) c.requires.next in
    let m = board-missed plan c.args.board.now c.requires.board t c.requires.next in
    let old = g.W.Spawner.runs c.args.world.now in
    let mid = g.W.Spawner.runs c.clear_owned.new.world in
    let new = g.W.Spawner.runs c.start.new.world in
    let files = (g.W.Tree.state c.args.world.now).files in
    let cleared_files = (g.W.Tree.state c.clear_owned.new.world).files in
    let now = now_at c.args.board.now g.W.Spawner.effect old (g.W.Tree.state c.args.world.now) pairs
    lasting room in
    let begins = c.in_ok-start.ensures.begins told in
    let started = c.in_ok-start.ensures.started in
    let clear = c.in_ok-clear_owned.ensures in
    let command = c.in_ok-command.command in
    let command_is = c.in_ok-command.ensures.command in
    let story = c.story_law.ensures.start plan o now t new.will stands c.requires.calm is
    (own-will plan st t command command_is old mid new clear.runs started g.W.Spawner.effect files
    cleared_files (clear.cleared told) begins)
    (others-will plan st t command command_is old mid new clear.runs started c.requires.steps m.1
    c.in_ok-start.ensures.others) in
    become plan o now
    (record now {
      states = put st t Running;
      steps = now.steps ++ Start (command_of plan t) ∷ [];
      will = new.will;
      files = cleared (part_at plan.listing t).outs files;
    })
    (now_at c.begin.new.self g.W.Spawner.effect new (g.W.Tree.state c.start.new.world) pairs lasting
    room)
    stands (sym c.begin.ensures.states)
    (ap g.W.Spawner.effect (sym (c.in_ok-start.ensures.book ∙ ap (λ w. w.book) clear.runs)))
    (sym (own-steps plan st t command command_is old mid new clear.runs started g.W.Spawner.effect
    cleared_files begins))
    refl (sym (c.in_ok-start.ensures.files ∙ clear.cleared told)) refl refl refl
    (sym c.begin.ensures.reports) (sym c.begin.ensures.logs) (sym c.begin.ensures.shown) story

pub returns-clause-safe : goal.returns-clause-safe
returns-clause-safe g c told o pairs left lasting room stands first =
    c.halt_law.ensures.safe c.args.plan.now o _ left
    (returns-clause-stands g c told pairs lasting room o stands) first

pub clear_owned-requires-clause-free : goal.clear_owned-requires-clause-free
clear_owned-requires-clause-free = Needs.clear_owned-requires-clause-free

pub start-requires-clause-fresh : goal.start-requires-clause-fresh
start-requires-clause-fresh = Needs.start-requires-clause-fresh

pub start-requires-clause-absent : goal.start-requires-clause-absent
start-requires-clause-absent = Needs.start-requires-clause-absent

pub start-requires-clause-clear : goal.start-requires-clause-clear
start-requires-clause-clear = Needs.start-requires-clause-clear

pub start-requires-clause-reads : goal.start-requires-clause-reads
start-requires-clause-reads = Needs.start-requires-clause-reads
