use Rattle.std.proofs.Common.{◌≡◌, ◌<◌, ◌∙◌, refl, sym, ap, subst}
use Rattle.run_core.specs.declared.states.State.TheVariants as state
use Rattle.run_core.specs.declared.states.Next.TheVariants as turn
use Rattle.run_core.specs.Core.{rules, states}
use Rattle.run_core.specs.Machine.{is_done}
use Rattle.run_core.specs.Moves.{turns_left}
use Rattle.run_plan.specs.Openings.{rules_of}
use Rattle.run_plan.specs.Stories.{is_settled}
use Rattle.run_board.specs.Tables.{fingerprint_in}
use Rattle.run_board.proofs.BoardFacts.{Moved, put-moved, put-here, put-settled, flags-bare}
use Rattle.run_board.proofs.TurnFacts.{by-plan, look-waits, turns-missed, known-set}
use Rattle.run_board.proofs.board.Board.miss.Goals as goal

pub returns-clause-moved : goal.returns-clause-moved
returns-clause-moved c =
    let plan = c.args.plan.now in
    let t = c.args.place in
    let old = c.args.self.now in
    let st = states old.core in
    let is = by-plan plan (rules old.core) st (turn.Lookup t) c.requires.board.rules_are c.requires.next in
    let bare = look-waits plan st t is in
    let later = states c.missed.new.self in
    let moved : Moved st later t =
    subst (λ x. Moved st x t) (sym c.missed.ensures.states) (put-moved st t state.Missed) in
    let here : later t ≡ state.Missed =
    ap (λ x. x t) c.missed.ensures.states ∙ put-here st t state.Missed in
    record {
      is_board = record {
        rules_are = c.missed.ensures.kept.rules ∙ c.requires.board.rules_are;
        commands = c.missed.ensures.kept.commands ∙ c.requires.board.commands;
        reports = c.requires.board.reports;
        logs = c.requires.board.logs;
        good = c.requires.board.good;
        fingerprints = c.set.ensures.size ∙ c.requires.board.fingerprints;
        shown = c.requires.board.shown;
        ahead = c.requires.board.ahead;
        flags = flags-bare plan c.requires.plan st later t old.good moved (ap is_done bare)
            (ap is_done here) c.requires.board.flags;
        known = known-set plan t (fingerprint_in old.fingerprints)
            (fingerprint_in c.set.new.self) c.args.fingerprint c.set.ensures.set c.requires.known
            c.requires.board.known;
      };
      settled = record {
        shown = refl;
        states_are = λ u h. ap (λ x. x u) c.missed.ensures.states
            ∙ put-settled st t state.Missed (ap is_settled bare) u h;
        reports_are = λ u h. refl;
      };
      turns = subst (λ x. turns_left (rules_of plan) x < turns_left (rules_of plan) st)
          (sym c.missed.ensures.states) (turns-missed plan st t is);
    }
