use Rattle.std.proofs.Common.{◌≡◌, ◌∙◌, ◌==◌, ◌+◌, ◌∷◌, ◌++◌, [], ℕ, List, Ok, Err, length, take, drop, refl, sym, ap, rules, arith, lit<}
use Rattle.std.specs.List.{slice_split}
use Rattle.std.proofs.lemmas.Iterator.Splits.{YieldsList-from_str_split}
use Rattle.std.proofs.lemmas.Iterator.Consumers.{YieldsList-turn, YieldsList-end}
use Rattle.std.proofs.lemmas.List.{length_push}
use Rattle.std.proofs.lemmas.Result.{err_from_is_err_and}
use Rattle.npm_range.specs.Reading.{Reads, reads_on}
use Rattle.npm_range.proofs.Sets.{reads-refused, reads-more, reads-done}
use Rattle.npm_range.proofs.Splits.{turn}
use Rattle.npm_range.proofs.range.Reader.read_piece.Goals as goal

pub loop-word-init : goal.loop-word-init
loop-word-init c = (tt, tt, λ more. refl)

pub loop-word-preserved : goal.loop-word-preserved
loop-word-preserved c =
    let t = YieldsList-turn (YieldsList-from_str_split 9 c.args.piece.now (lit< tt) (cc) (cc) (cc)) c.loop-word.yielded _ c.loop-word.yielded_by _ _ c.in-Some.word c.in-Some.is c.next.ensures.steps in
    let n = turn (slice_split (λ b. b == 9) c.args.piece.now) (length c.loop-word.yielded) c.in-Some.word.now t in
    let one_more = length_push c.loop-word.yielded c.in-Some.word in
    (tt, tt, rw one_more (reads-more c.args.self.now c.loop-word.self c.read_word.new.self _ _ c.in-Some.word.now _ n.1 c.loop-word.invariant.2 c.in_ok-read_word.ensures))

pub returns-in_err-read_word : goal.returns-in_err-read_word
returns-in_err-read_word c =
    let t = YieldsList-turn (YieldsList-from_str_split 9 c.args.piece.now (lit< tt) (cc) (cc) (cc)) c.loop-word.yielded _ c.loop-word.yielded_by _ _ c.in-Some.word c.in-Some.is c.next.ensures.steps in
    let n = turn (slice_split (λ b. b == 9) c.args.piece.now) (length c.loop-word.yielded) c.in-Some.word.now t in
    let error = err_from_is_err_and c.from_residual.result c.from_residual.ensures.1 in
    rw (error.1, error.2) (reads-refused c.args.self.now c.loop-word.self c.read_word.new.self c.read_word.new.self _ _ c.in-Some.word.now _ c.in_err-read_word.field-0.0 n.1 c.loop-word.invariant.2 c.in_err-read_word.ensures)

pub returns : goal.returns
returns c =
    let t = YieldsList-end (YieldsList-from_str_split 9 c.args.piece.now (lit< tt) (cc) (cc) (cc)) c.loop-word.yielded _ c.loop-word.yielded_by _ _ c.in-None.is c.next.ensures.steps in
    reads-done c.args.self.now c.loop-word.self _ (length c.loop-word.yielded) (omega (arith, t.1)) c.loop-word.invariant.2
