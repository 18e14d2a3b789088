use Rattle.std.proofs.Common.{◌≡◌, ◌<◌, ◌∙◌, true, refl, sym, ap, subst}
use Rattle.run_core.specs.declared.states.State.TheVariants as state
use Rattle.run_core.specs.declared.states.Next.TheVariants as turn
use Rattle.run_core.specs.Core.{rules, states}
use Rattle.run_core.specs.Machine.{is_done}
use Rattle.run_core.specs.Moves.{turns_left}
use Rattle.run_plan.specs.Openings.{rules_of}
use Rattle.run_plan.specs.Stories.{is_settled}
use Rattle.spawn_dev.specs.Spawn.{put_at}
use Rattle.run_board.specs.Tables.{flag_in}
use Rattle.run_board.proofs.BoardFacts.{Moved, put-moved, put-here, put-settled, deps-done, new-flag, flags-done}
use Rattle.run_board.proofs.TurnFacts.{by-plan, look-waits, turns-found}
use Rattle.run_board.proofs.board.Board.pass.Goals as goal

pub returns-clause-moved : goal.returns-clause-moved
returns-clause-moved c =
    let plan = c.args.plan.now in
    let t = c.args.place in
    let old = c.args.self.now in
    let st = states old.core in
    let is = by-plan plan (rules old.core) st (turn.Lookup t) c.requires.board.rules_are c.requires.next in
    let waits = look-waits plan st t is in
    let later = states c.found.new.self in
    let moved : Moved st later t =
    subst (λ x. Moved st x t) (sym c.found.ensures.states) (put-moved st t state.Passed) in
    let here : later t ≡ state.Passed =
    ap (λ x. x t) c.found.ensures.states ∙ put-here st t state.Passed in
    let flag = new-flag plan c.requires.plan st old.good c.requires.board.flags t
    (deps-done plan c.requires.plan st t is) later moved state.Passed here refl true
    (λ h. refl) (λ h. absurd (cc)) in
    let set = c.set.ensures.set
    ∙ ap (λ f. put_at (flag_in old.good) t f) c.sound-sound.ensures in
    record {
      is_board = record {
        rules_are = c.found.ensures.kept.rules ∙ c.requires.board.rules_are;
        commands = c.found.ensures.kept.commands ∙ c.requires.board.commands;
        reports = c.requires.board.reports;
        logs = c.requires.board.logs;
        good = c.set.ensures.size ∙ c.requires.board.good;
        fingerprints = c.requires.board.fingerprints;
        shown = c.requires.board.shown;
        ahead = c.requires.board.ahead;
        flags = flags-done plan c.requires.plan st later t old.good c.set.new.self _ moved
            (ap is_done waits) c.requires.board.flags set flag;
        known = c.requires.board.known;
      };
      settled = record {
        shown = refl;
        states_are = λ u h. ap (λ x. x u) c.found.ensures.states
            ∙ put-settled st t state.Passed (ap is_settled waits) u h;
        reports_are = λ u h. refl;
      };
      turns = subst (λ x. turns_left (rules_of plan) x < turns_left (rules_of plan) st)
          (sym c.found.ensures.states) (turns-found plan st t is);
    }
