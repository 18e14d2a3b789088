use Rattle.std.proofs.Common.{◌∙◌, [], get_or, ap}
use Rattle.std.proofs.lemmas.List.{get_or-map}
use Rattle.sha2.specs.Sha256.{sha256}
use Rattle.run_laws.specs.Keys.{key_of}
use Rattle.run_board.specs.Tables.{fingerprint_in}
use Rattle.run_board.proofs.AheadFacts.{learned, learns-more}
use Rattle.run_board.proofs.board.Board.keep_prints.Goals as goal

pub prints-preserved : goal.prints-preserved
prints-preserved c =
    let plan = c.args.plan.now in
    let places = c.args.places.now in
    let i = c.prints.i in
    let inv = c.prints.invariant in
    let print = ap (λ prints. get_or prints i []) c.requires.prints
    ∙ get_or-map (λ t. sha256 (key_of plan.listing t)) places i 0 [] c.prints-test.true in
    record {
      board = learned plan c.prints.self (get_or places i 0) _ c.set.new.self inv.board
          c.set.ensures.size c.set.ensures.set print;
      ahead = record {
        core = inv.ahead.core;
        reports = inv.ahead.reports;
        logs = inv.ahead.logs;
        good = inv.ahead.good;
        shown = inv.ahead.shown;
      };
      learned = learns-more (fingerprint_in c.args.self.now.fingerprints)
          (fingerprint_in c.prints.self.fingerprints) (fingerprint_in c.set.new.self) places i _
          inv.learned c.prints-test.true c.set.ensures.set;
    }
