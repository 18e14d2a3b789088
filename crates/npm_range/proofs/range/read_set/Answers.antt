use Rattle.std.proofs.Common.{◌≡◌, ◌∙◌, ◌==◌, ◌+◌, ◌∷◌, ◌++◌, [], ℕ, List, Ok, Err, inr, length, take, drop, refl, sym, ap, rules, arith, lit<}
use Rattle.std.specs.List.{slice_split}
use Rattle.std.proofs.lemmas.Iterator.Splits.{YieldsList-from_str_split}
use Rattle.std.proofs.lemmas.Iterator.Consumers.{YieldsList-turn, YieldsList-end}
use Rattle.std.proofs.lemmas.List.{length_push}
use Rattle.std.proofs.lemmas.Result.{err_from_is_err_and}
use Rattle.npm_range.proofs.Sets.{set-first, set-more, set-refused, set-done, set-waits}
use Rattle.npm_range.proofs.Splits.{turn}
use Rattle.npm_range.proofs.range.read_set.Goals as goal

pub loop-piece-init : goal.loop-piece-init
loop-piece-init c = (tt, tt, set-first c.args.text.now _ refl c.new.ensures.items)

pub loop-piece-preserved : goal.loop-piece-preserved
loop-piece-preserved c =
    let t = YieldsList-turn (YieldsList-from_str_split 32 c.args.text.now (lit< tt) (cc) (cc) (cc)) c.loop-piece.yielded _ c.loop-piece.yielded_by _ _ c.in-Some.piece c.in-Some.is c.next.ensures.steps in
    let n = turn (slice_split (λ b. b == 32) c.args.text.now) (length c.loop-piece.yielded) c.in-Some.piece.now t in
    let one_more = length_push c.loop-piece.yielded c.in-Some.piece in
    (tt, tt, rw one_more (set-more c.args.text.now c.loop-piece.reader c.read_piece.new.self _ _ c.in-Some.piece.now n.1 c.loop-piece.invariant.2 c.in_ok-read_piece.ensures))

pub returns-in_err-read_piece-clause-err : goal.returns-in_err-read_piece-clause-err
returns-in_err-read_piece-clause-err c =
    let t = YieldsList-turn (YieldsList-from_str_split 32 c.args.text.now (lit< tt) (cc) (cc) (cc)) c.loop-piece.yielded _ c.loop-piece.yielded_by _ _ c.in-Some.piece c.in-Some.is c.next.ensures.steps in
    let n = turn (slice_split (λ b. b == 32) c.args.text.now) (length c.loop-piece.yielded) c.in-Some.piece.now t in
    let error = err_from_is_err_and c.from_residual.result c.from_residual.ensures.1 in
    rw (error.1, error.2) (set-refused c.args.text.now c.loop-piece.reader c.read_piece.new.self _ _ c.in-Some.piece.now c.in_err-read_piece.field-0.0 n.1 c.loop-piece.invariant.2 c.in_err-read_piece.ensures)

pub returns-in-None-waiting-clause-ok : goal.returns-in-None-waiting-clause-ok
returns-in-None-waiting-clause-ok c =
    let t = YieldsList-end (YieldsList-from_str_split 32 c.args.text.now (lit< tt) (cc) (cc) (cc)) c.loop-piece.yielded _ c.loop-piece.yielded_by _ _ c.in-None.is c.next.ensures.steps in
    set-done c.args.text.now c.loop-piece.reader _ (length c.loop-piece.yielded) (omega (arith, t.1)) c.loop-piece.invariant.2 c.in-None-waiting.is

pub returns-in-Some-waiting-clause-err : goal.returns-in-Some-waiting-clause-err
returns-in-Some-waiting-clause-err c =
    let t = YieldsList-end (YieldsList-from_str_split 32 c.args.text.now (lit< tt) (cc) (cc) (cc)) c.loop-piece.yielded _ c.loop-piece.yielded_by _ _ c.in-None.is c.next.ensures.steps in
    inr (refl, set-waits c.args.text.now c.loop-piece.reader _ (length c.loop-piece.yielded) _ (omega (arith, t.1)) c.loop-piece.invariant.2 c.in-Some-waiting.is)
