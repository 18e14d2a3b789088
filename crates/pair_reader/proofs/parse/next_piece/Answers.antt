use Rattle.std.proofs.Common.{sym, ◌∙◌, ap, arith}
use Rattle.codes.specs.Codes.{took}
use Rattle.record_log.specs.declared.piece.PieceRef.{PieceRef}
use Rattle.record_log.specs.Frames.{text_of}
use Rattle.record_log.specs.Log.{frames_in}
use Rattle.record_log.specs.Pieces.{piece_in}
use Rattle.pair_reader.proofs.Cutting.{literal_lies, lies_len, piece_ends, stands_within}
use Rattle.pair_reader.proofs.parse.next_piece.Goals as goal

pub overflow_sub-passed : goal.overflow_sub-passed
overflow_sub-passed g c =
    let is = sym c.in_ok-piece.ensures ∙ ap (λ (p : PieceRef). took (piece_in p) c.in_ok-piece.behind.now) c.in-Literal.is in
    let lies = literal_lies c.args.source c.args.bytes.now c.in-Literal.literal.now c.in_ok-piece.behind.now (λ i. omega (arith, c.type_inv.bytes i)) c.requires.ends is in
    omega (arith, lies_len _ _ _ lies)

pub overflow_sub-passed-in-Literal : goal.overflow_sub-passed-in-Literal
overflow_sub-passed-in-Literal g c =
    let is = sym c.in_ok-piece.ensures ∙ ap (λ (p : PieceRef). took (piece_in p) c.in_ok-piece.behind.now) c.in-Literal.is in
    let lies = literal_lies c.args.source c.args.bytes.now c.in-Literal.literal.now c.in_ok-piece.behind.now (λ i. omega (arith, c.type_inv.bytes i)) c.requires.ends is in
    omega (arith, lies_len _ _ _ lies)

pub returns-in-Literal-clause-ends : goal.returns-in-Literal-clause-ends
returns-in-Literal-clause-ends g c =
    piece_ends c.args.source c.args.bytes.now _ c.in_ok-piece.behind.now (λ i. omega (arith, c.type_inv.bytes i)) c.requires.ends (sym c.in_ok-piece.ensures)

pub returns-in-Literal-clause-show : goal.returns-in-Literal-clause-show
returns-in-Literal-clause-show g c told =
    let source = c.args.source in
    let text = text_of (frames_in c.args.log.now) in
    let is = sym c.in_ok-piece.ensures ∙ ap (λ (p : PieceRef). took (piece_in p) c.in_ok-piece.behind.now) c.in-Literal.is in
    let lies = literal_lies source c.args.bytes.now c.in-Literal.literal.now c.in_ok-piece.behind.now (λ i. omega (arith, c.type_inv.bytes i)) c.requires.ends is in
    let stands = c.requires.stands told in
    stands_within text source.at source.bytes.now c.in-Literal.literal.now c.in_ok-piece.behind.now c.saturating_add-at.result stands.stands stands.short lies c.saturating_add-at.ensures

pub returns-else-number-count-clause-ends : goal.returns-else-number-count-clause-ends
returns-else-number-count-clause-ends g c =
    piece_ends c.args.source c.args.bytes.now _ c.in_ok-piece.behind.now (λ i. omega (arith, c.type_inv.bytes i)) c.requires.ends (sym c.in_ok-piece.ensures)
