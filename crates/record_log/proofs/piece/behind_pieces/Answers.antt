use Rattle.std.proofs.Common.{rules, ◌≡◌, ◌-◌, [], ◌∷◌, ◌++◌, None, refl, sym, ◌∙◌, ap, arith}
use Rattle.std.specs.Option.{option_map}
use Rattle.codes.specs.Reading.{items_step}
use Rattle.record_log.specs.Pieces.{width, read_piece, behind, all_below, is_below}
use Rattle.record_log.specs.Records.{all_below_push}
use Rattle.record_log.proofs.Records.{passed, pieces_is, pieces_none, stuck, ended}
use Rattle.record_log.proofs.piece.behind_pieces.Goals as goal

pub returns-in_err-count : goal.returns-in_err-count
returns-in_err-count c =
    let is : c.from_residual.result ≡ None = search rules in
    ap (option_map (λ r. r.now)) is ∙ ap (behind (all_below c.args.contents)) (sym (pieces_none (width c.args.long) c.args.bytes.now (sym c.in_err-count.ensures.value)))

pub loop-left-init : goal.loop-left-init
loop-left-init c = record { found = ([], refl, pieces_is (width c.args.long) c.args.bytes.now c.in_ok-count.count c.in_ok-count.rest.now (sym c.in_ok-count.ensures.value)) }

pub loop-left-preserved : goal.loop-left-preserved
loop-left-preserved c =
    let (xs, good, is) = c.loop-left.invariant.found in
    let r = read_piece (width c.args.long) in
    let p = passed (is_below c.args.contents) (r c.loop-left.rest.now) c.in_ok-rest.rest.now (sym c.in_ok-rest.ensures) in
    record { found = (xs ++ p.value ∷ [], all_below_push c.args.contents xs p.value good p.good, is ∙ items_step r xs (xs ++ p.value ∷ []) c.loop-left.left (c.loop-left.left - 1) c.loop-left.rest.now c.in_ok-rest.rest.now p.value (omega arith) p.is refl) }

pub returns : goal.returns
returns c =
    let (xs, good, is) = c.loop-left.invariant.found in
    sym (ap (behind (all_below c.args.contents)) is ∙ ended c.args.contents (read_piece (width c.args.long)) c.loop-left.left xs c.loop-left.rest.now (omega arith) good)

pub returns-in_err-rest : goal.returns-in_err-rest
returns-in_err-rest c =
    let (xs, good, is) = c.loop-left.invariant.found in
    let r = read_piece (width c.args.long) in
    let none : c.from_residual-in_err-rest.result ≡ None = search rules in
    let bad : behind (is_below c.args.contents) (r c.loop-left.rest.now) ≡ None = sym c.in_err-rest.ensures in
    ap (option_map (λ r. r.now)) none ∙ sym (ap (behind (all_below c.args.contents)) is ∙ stuck c.args.contents r c.loop-left.left xs c.loop-left.rest.now (omega arith) bad)
