use Rattle.std.proofs.Common.{◌≡◌, ◌<◌, ◌∙◌, ◌&&◌, ◌==◌, not, Bool, true, false, refl, sym, ap, subst}
use Rattle.std.proofs.lemmas.Bool.{true≢false, false≢true}
use Rattle.run_core.specs.declared.states.State.TheVariants as state
use Rattle.run_core.specs.declared.states.Next.TheVariants as turn
use Rattle.run_core.specs.Core.{rules, states}
use Rattle.run_core.specs.Machine.{after_end, is_done}
use Rattle.run_core.specs.Moves.{turns_left}
use Rattle.run_plan.specs.Openings.{rules_of}
use Rattle.run_plan.specs.Stories.{is_settled}
use Rattle.run_plan.specs.Reports.{report_in}
use Rattle.spawn_dev.specs.Spawn.{put_at}
use Rattle.run_board.specs.Tables.{flag_in}
use Rattle.run_board.proofs.BoardFacts.{Moved, end-here, end-moved, end-settled, running-deps, new-flag, flags-done}
use Rattle.run_board.proofs.TurnFacts.{by-plan, other-reports, turns-ended}
use Rattle.run_board.proofs.board.Board.end.Goals as goal

not-so : (b : Bool) → b ≡ true → not b ≡ false
not-so true h = refl
not-so false h = absurd (false≢true h)

so-not : (b : Bool) → b ≡ false → not b ≡ true
so-not true h = absurd (true≢false h)
so-not false h = refl

pub returns-clause-moved : goal.returns-clause-moved
returns-clause-moved c =
    let plan = c.args.plan.now in
    let valid = c.requires.plan in
    let old = c.args.self.now in
    let st = states old.core in
    let t = c.args.ended.place in
    let x = c.args.ended.status in
    let running = c.requires.running in
    let after : states c.ended.new.self ≡ after_end (rules_of plan) st t x =
    c.ended.ensures.states ∙ ap (λ g. after_end g st t x) c.requires.board.rules_are in
    let later = states c.ended.new.self in
    let moved : Moved st later t =
    subst (λ y. Moved st y t) (sym after) (end-moved plan valid st c.requires.calm t x running) in
    let here : later t ≡ state.Ended x =
    ap (λ y. y t) after ∙ end-here plan valid st c.requires.calm t x running in
    let flag = new-flag plan valid st old.good c.requires.board.flags t
    (running-deps plan valid st c.requires.calm t running) later moved (state.Ended x) here refl
    (x == 0) (not-so (x == 0)) (so-not (x == 0)) in
    let value = c.both.ensures ∙ ap (λ b. (x == 0) && b) c.requires.sound in
    record {
      is_board = record {
        rules_are = c.ended.ensures.kept.rules ∙ c.requires.board.rules_are;
        commands = c.ended.ensures.kept.commands ∙ c.requires.board.commands;
        reports = c.set.ensures.size ∙ c.requires.board.reports;
        logs = c.set-3.ensures.size ∙ c.requires.board.logs;
        good = c.set-2.ensures.size ∙ c.requires.board.good;
        fingerprints = c.requires.board.fingerprints;
        shown = c.requires.board.shown;
        ahead = c.requires.board.ahead;
        flags = flags-done plan valid st later t old.good c.set-2.new.self _ moved
            (ap is_done running) c.requires.board.flags
            (c.set-2.ensures.set ∙ ap (λ f. put_at (flag_in old.good) t f) value) flag;
        known = c.requires.board.known;
      };
      settled = record {
        shown = refl;
        states_are = λ u h. ap (λ y. y u) after
            ∙ end-settled plan valid st c.requires.calm t x running u h;
        reports_are = other-reports st t (report_in old.reports) _ _ (ap is_settled running)
            c.set.ensures.set;
      };
      turns = subst (λ y. turns_left (rules_of plan) y < turns_left (rules_of plan) st) (sym after)
          (turns-ended plan st t x (by-plan plan (rules old.core) st turn.WaitFirst
          c.requires.board.rules_are c.requires.next) c.requires.place running);
    }
