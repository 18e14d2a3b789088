use Rattle.std.proofs.Common.{List, ◌-◌, sym, ◌∙◌, ap, subst, arith}
use Rattle.codes.specs.Codes.{read_items}
use Rattle.record_log.specs.Frames.{text_of}
use Rattle.record_log.specs.Log.{frames_in}
use Rattle.record_log.specs.Pieces.{Piece, width, read_piece}
use Rattle.blob_pool.specs.Contents.{contents_of}
use Rattle.blob_pool.specs.Known.{known_in, count_in}
use Rattle.pair_reader.specs.declared.piece.PieceAt.{PieceAt}
use Rattle.pair_reader.specs.Standing.{piece_of, pieces_of, AreThere, AllShow}
use Rattle.pair_reader.proofs.Cutting.{list_starts, count_ends, list_next, pieces_push, there_push, shows_push}
use Rattle.pair_reader.proofs.parse.piece_list.Goals as goal

pub loop-left-init : goal.loop-left-init
loop-left-init g c =
    let source = c.args.source in
    let bytes = c.args.bytes.now in
    let count = sym c.in-Some.ensures.value in
    let none = sym c.new-pieces.ensures.items in
    record {
      read = list_starts source.long bytes c.in-Some.count c.in-Some.first.now count
          ∙ ap (λ (l : List PieceAt). read_items (read_piece (width source.long)) (pieces_of l) c.in-Some.count c.in-Some.first.now) none;
      ends = count_ends source bytes c.in-Some.count c.in-Some.first.now (λ i. omega (arith, c.type_inv.bytes i)) c.requires.ends count;
      there = subst (AreThere (count_in c.args.pool.now)) none tt;
      show = λ told. subst (AllShow (text_of (frames_in c.args.log.now)) (contents_of (known_in c.args.log.now))) none tt;
    }

pub loop-left-preserved : goal.loop-left-preserved
loop-left-preserved g c =
    let w = width c.args.source.long in
    let text = text_of (frames_in c.args.log.now) in
    let contents = contents_of (known_in c.args.log.now) in
    let count = count_in c.args.pool.now in
    let pieces = c.loop-left.pieces.items in
    let piece = c.in-Some-next_piece.piece in
    let more = c.in-Some-next_piece.more.now in
    let left = c.loop-left.left in
    let before = c.loop-left.invariant in
    let next = c.in-Some-next_piece.ensures in
    let pushed = c.in_ok-push.ensures.items in
    record {
      read = before.read
          ∙ list_next (read_piece w) (pieces_of pieces) left c.loop-left.rest.now (piece_of piece) more (omega (arith, c.loop-left-test.true)) next.read
          ∙ ap (λ (l : List Piece). read_items (read_piece w) l (left - 1) more) (sym (pieces_push pieces piece) ∙ ap pieces_of (sym pushed));
      ends = next.ends;
      there = subst (AreThere count) (sym pushed) (there_push count pieces piece before.there next.there);
      show = λ told. subst (AllShow text contents) (sym pushed) (shows_push text contents pieces piece (before.show told) (next.show told));
    }
