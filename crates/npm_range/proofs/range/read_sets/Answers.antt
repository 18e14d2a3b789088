use Rattle.std.proofs.Common.{◌≡◌, ◌∙◌, ◌==◌, ◌+◌, ◌∷◌, ◌++◌, [], ℕ, List, Ok, Err, inr, length, take, drop, refl, sym, ap, rules, arith, lit<}
use Rattle.std.specs.List.{slice_split}
use Rattle.std.proofs.lemmas.Iterator.Splits.{YieldsList-from_str_split}
use Rattle.std.proofs.lemmas.Iterator.Consumers.{YieldsList-turn, YieldsList-end}
use Rattle.std.proofs.lemmas.List.{length_push}
use Rattle.std.proofs.lemmas.Grind.{common_steps}
use Rattle.std.proofs.lemmas.Result.{err_from_is_err_and}
use Rattle.npm_range.proofs.Splits.{turn}
use Rattle.npm_range.proofs.Joined.{sets-first, sets-set, sets-bar, sets-refused, sets-other, sets-open, sets-done}
use Rattle.npm_range.proofs.range.read_sets.Goals.{then-is_set+in_ok-bounds+in_ok-push, else-is_set+else-not-is_empty}
use Rattle.npm_range.proofs.range.read_sets.Goals as goal

pub loop-piece-init : goal.loop-piece-init
loop-piece-init c = (tt, tt, sets-first c.args.text.now _ c.new-sets.ensures.items)

pub returns-in_err-bounds-clause-err : goal.returns-in_err-bounds-clause-err
returns-in_err-bounds-clause-err c =
    let t = YieldsList-turn (YieldsList-from_str_split 124 c.args.text.now (lit< tt) (cc) (cc) (cc)) c.loop-piece.yielded _ c.loop-piece.yielded_by _ _ c.in-Some.piece c.in-Some.is c.next.ensures.steps in
    let n = turn (slice_split (λ b. b == 124) c.args.text.now) (length c.loop-piece.yielded) c.in-Some.piece.now t in
    let error = err_from_is_err_and c.from_residual.result c.from_residual.ensures.1 in
    rw (error.1, error.2) (sets-refused c.args.text.now c.loop-piece.sets.items _ _ c.in-Some.piece.now c.loop-piece.is_set c.in_err-bounds.field-0.0 n.1 c.if-is_set.true c.loop-piece.invariant.2 c.in_err-bounds.ensures.err)

pub returns-then-not-is_empty-clause-err : goal.returns-then-not-is_empty-clause-err
returns-then-not-is_empty-clause-err c =
    let t = YieldsList-turn (YieldsList-from_str_split 124 c.args.text.now (lit< tt) (cc) (cc) (cc)) c.loop-piece.yielded _ c.loop-piece.yielded_by _ _ c.in-Some.piece c.in-Some.is c.next.ensures.steps in
    let n = turn (slice_split (λ b. b == 124) c.args.text.now) (length c.loop-piece.yielded) c.in-Some.piece.now t in
    inr (refl, sets-other c.args.text.now c.loop-piece.sets.items _ _ c.in-Some.piece.now c.loop-piece.is_set n.1 c.if-is_set.false c.loop-piece.invariant.2 (search rules))

pub loop-piece-preserved : goal.loop-piece-preserved
loop-piece-preserved c =
    let t = YieldsList-turn (YieldsList-from_str_split 124 c.args.text.now (lit< tt) (cc) (cc) (cc)) c.loop-piece.yielded _ c.loop-piece.yielded_by _ _ c.in-Some.piece c.in-Some.is c.next.ensures.steps in
    let n = turn (slice_split (λ b. b == 124) c.args.text.now) (length c.loop-piece.yielded) c.in-Some.piece.now t in
    let one_more = length_push c.loop-piece.yielded c.in-Some.piece in (
      tt,
      tt,
      rw one_more (elim c.if-is_set.branch [
        | then-is_set+in_ok-bounds+in_ok-push w ↦
            let pushed : c.if-is_set.sets.items ≡ c.loop-piece.sets.items ++ w.in_ok-bounds.bounds.items ∷ [] = grind (arith, common_steps, w.sets-is, w.push.ensures.items) in
            rw pushed (sets-set c.args.text.now c.loop-piece.sets.items _ _ c.in-Some.piece.now w.in_ok-bounds.bounds.items c.loop-piece.is_set n.1 w.if-is_set.true c.loop-piece.invariant.2 w.in_ok-bounds.ensures.ok)
        | else-is_set+else-not-is_empty w ↦
            let same : c.if-is_set.sets.items ≡ c.loop-piece.sets.items = ap (λ s. s.items) w.sets-is in
            rw same (sets-bar c.args.text.now c.loop-piece.sets.items _ _ c.in-Some.piece.now c.loop-piece.is_set n.1 w.if-is_set.false c.loop-piece.invariant.2 (search rules))
      ]),
    )

pub returns-then-is_set-2-clause-err : goal.returns-then-is_set-2-clause-err
returns-then-is_set-2-clause-err c =
    let t = YieldsList-end (YieldsList-from_str_split 124 c.args.text.now (lit< tt) (cc) (cc) (cc)) c.loop-piece.yielded _ c.loop-piece.yielded_by _ _ c.in-None.is c.next.ensures.steps in
    inr (refl, sets-open c.args.text.now c.loop-piece.sets.items _ (length c.loop-piece.yielded) c.loop-piece.is_set (omega (arith, t.1)) c.if-is_set-2.true c.loop-piece.invariant.2)

pub returns-else-is_set-2-clause-ok : goal.returns-else-is_set-2-clause-ok
returns-else-is_set-2-clause-ok c =
    let t = YieldsList-end (YieldsList-from_str_split 124 c.args.text.now (lit< tt) (cc) (cc) (cc)) c.loop-piece.yielded _ c.loop-piece.yielded_by _ _ c.in-None.is c.next.ensures.steps in
    sets-done c.args.text.now c.loop-piece.sets.items _ (length c.loop-piece.yielded) c.loop-piece.is_set (omega (arith, t.1)) c.if-is_set-2.false c.loop-piece.invariant.2
