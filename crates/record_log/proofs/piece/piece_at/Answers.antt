use Rattle.std.proofs.Common.{rules, ◌≡◌, None, sym, ◌∙◌, ap}
use Rattle.codes.specs.Views.{taken_by}
use Rattle.record_log.specs.Pieces.{width, piece_in, read_piece}
use Rattle.record_log.proofs.Records.{piece_none, piece_empty, piece_is}
use Rattle.record_log.proofs.piece.piece_at.Goals as goal

pub returns-in_err-tag : goal.returns-in_err-tag
returns-in_err-tag c =
    let is : c.from_residual.result ≡ None = search rules in
    ap (taken_by (λ p. piece_in p.0) (λ p. p.1.now)) is ∙ sym (piece_empty (width c.args.long) c.args.bytes.now c.in_err-tag.ensures.cases)

pub returns-in_err-number : goal.returns-in_err-number
returns-in_err-number c =
    let w = width c.args.long in
    let is : c.from_residual-in_err-number.result ≡ None = search rules in
    ap (taken_by (λ p. piece_in p.0) (λ p. p.1.now)) is ∙ sym (ap (read_piece w) c.in_ok-tag.ensures.cases.0 ∙ piece_none w c.in_ok-tag.tag.now c.in_ok-tag.rest.now (sym c.in_err-number.ensures.value))

pub returns : goal.returns
returns c =
    let w = width c.args.long in
    let number = piece_is w c.in_ok-tag.tag.now c.in_ok-number.number c.in_ok-tag.rest.now c.in_ok-number.more.now (sym c.in_ok-number.ensures.value) in
    c.piece_by.ensures ∙ sym (ap (read_piece w) c.in_ok-tag.ensures.cases.0 ∙ number)
