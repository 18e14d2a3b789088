use Rattle.std.proofs.Common.{◌∙◌, sym, ap, arith}
use Rattle.std.proofs.lemmas.Bool.{false≢true}
use Rattle.run_core.specs.Machine.{is_done}
use Rattle.run_board.proofs.TurnFacts.{none-known}
use Rattle.run_board.proofs.board.Board.new.Goals as goal

pub returns-clause-board : goal.returns-clause-board
returns-clause-board c = record {
  rules_are = c.in_ok-core.ensures.rules;
  commands = c.in_ok-core.ensures.commands;
  reports = c.in_ok-new.ensures.size ∙ c.size-size.ensures;
  logs = c.in_ok-new-2.ensures.size ∙ c.size-size.ensures;
  good = c.in_ok-new-3.ensures.size ∙ c.size-size.ensures;
  fingerprints = c.in_ok-new-4.ensures.size ∙ c.size-size.ensures;
  shown = omega arith;
  ahead = omega arith;
  flags = λ t. record {
    good = λ h. absurd (false≢true (ap (λ f. f t) (sym c.in_ok-new-3.ensures.none) ∙ h));
    bad = λ h done. absurd (false≢true
        (ap (λ f. is_done (f t)) (sym c.in_ok-core.ensures.states) ∙ done));
  };
  known = none-known c.args.plan.now _ c.in_ok-new-4.ensures.none;
}
