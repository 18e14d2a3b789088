use Rattle.std.proofs.Common.{◌+◌, ◌<◌, ◌≢◌, ◌∙◌, sym, ap, subst, length, arith}
use Rattle.run_board.specs.declared.ahead.TheConstants.{KEYS_AHEAD}
use Rattle.run_board.specs.Ahead.{AddsDue}
use Rattle.run_board.specs.Tables.{fingerprint_in}
use Rattle.run_board.proofs.AheadFacts.{adds-due, adds-other}
use Rattle.run_board.proofs.ahead.add_due.Goals as goal
use Rattle.run_board.proofs.ahead.add_due.Goals.{then-is_due+in_ok-push, else-is_due}

pub due-preserved : goal.due-preserved
due-preserved c =
    let plan = c.args.plan.now in
    let known = fingerprint_in c.args.known.now in
    let from = c.args.from in
    let next = c.due.next in
    let old = c.args.places.now.items in
    let new = c.due.places.items in
    let below : next < length plan.listing.parts =
    omega (arith, c.due-test.true, c.size-size.ensures) in
    let few : length new ≢ KEYS_AHEAD =
    omega (arith, c.if-len-eq-KEYS_AHEAD.false, c.len.ensures) in
    let adds = c.due.invariant.adds in
    elim c.if-is_due.branch [
      | then-is_due+in_ok-push w ↦ record {
        adds = subst (AddsDue plan known from (next + 1) old)
            (sym (ap (λ ps. ps.items) w.places-is ∙ w.in_ok-push.ensures.items))
            (adds-due plan known from next old new adds below
            (sym c.is_due.ensures ∙ w.if-is_due.true) few);
        none = λ e. absurd (omega (arith, e, adds.behind));
      }
      | else-is_due w ↦ record {
        adds = subst (AddsDue plan known from (next + 1) old)
            (sym (ap (λ ps. ps.items) w.places-is)) (adds-other plan known from next old new adds
            below (sym c.is_due.ensures ∙ w.if-is_due.false));
        none = λ e. absurd (omega (arith, e, adds.behind));
      }
    ]
