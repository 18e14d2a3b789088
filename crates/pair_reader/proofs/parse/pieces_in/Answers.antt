use Rattle.std.proofs.Common.{◌≡◌, [], sym, ◌∙◌, ap, subst}
use Rattle.std.proofs.lemmas.Bool.{eqb-true}
use Rattle.record_log.specs.Frames.{text_of}
use Rattle.record_log.specs.Log.{device_of, frames_in}
use Rattle.record_log.specs.Answers.{entry_of}
use Rattle.record_log.specs.Pieces.{width, read_pieces}
use Rattle.pair_reader.specs.Standing.{StandsAt, pieces_of}
use Rattle.pair_reader.proofs.Cutting.{stands_at, record_cut, empty_is}
use Rattle.pair_reader.proofs.Shortness.{log_short}
use Rattle.pair_reader.proofs.parse.pieces_in.Goals as goal

pub piece_list-requires-clause-stands : goal.piece_list-requires-clause-stands
piece_list-requires-clause-stands g c told =
    let log = c.args.log.now in
    let text = text_of (frames_in log) in
    let e = entry_of c.args.frame.now in
    let span = c.value_span.result in
    let laws = g.met.S.StoreDevice in
    record {
      stands = subst (StandsAt text span.at) (sym c.as_slice.ensures) (stands_at text span e.value (c.value_span.ensures told e (c.requires.frame told)));
      short = log_short log c.args.number told (laws.are_bytes (device_of log) told) (laws.few_bytes (device_of log) told) c.requires.number;
    }

pub piece_list-requires-2-clause-stands : goal.piece_list-requires-2-clause-stands
piece_list-requires-2-clause-stands g c told =
    let log = c.args.log.now in
    let text = text_of (frames_in log) in
    let e = entry_of c.args.frame.now in
    let span = c.value_span.result in
    let laws = g.met.S.StoreDevice in
    record {
      stands = subst (StandsAt text span.at) (sym c.as_slice.ensures) (stands_at text span e.value (c.value_span.ensures told e (c.requires.frame told)));
      short = log_short log c.args.number told (laws.are_bytes (device_of log) told) (laws.few_bytes (device_of log) told) c.requires.number;
    }

pub returns-clause-record : goal.returns-clause-record
returns-clause-record g c =
    let e = entry_of c.args.frame.now in
    let read = read_pieces (width c.is_long.result) in
    let none : c.in_ok-value.behind.now ≡ [] = empty_is c.in_ok-value.behind.now (eqb-true _ 0 (sym c.is_empty.ensures ∙ c.if-not-is_empty.false)) in
    record_cut e c.is_long.result c.in_ok-key.behind.now c.in_ok-value.behind.now (pieces_of c.in_ok-key.key.items) (pieces_of c.in_ok-value.value.items) c.if-frame-eq-PAIR.false c.is_long.ensures
    (ap read (sym c.as_slice.ensures) ∙ c.in_ok-key.ensures.read) c.in_ok-value.ensures.read none
