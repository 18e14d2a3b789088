use Rattle.std.proofs.Common.{None}
use Rattle.std.proofs.lemmas.Result.{err_from_is_err_and}
use Rattle.codes.specs.Codes.{read_bytes, read_word, read_str}
use Rattle.artifact_reader.specs.Parts.{shown}
use Rattle.artifact_reader.specs.Cursors.{left_in}
use Rattle.artifact_reader.proofs.Sequence.{stops_first, stops_second, both_read, places_behind}
use Rattle.artifact_reader.proofs.Values.{str_none, str_as}
use Rattle.artifact_reader.proofs.reading.string.Goals as goal

pub returns-in_err-len-clause-read : goal.returns-in_err-len-clause-read
returns-in_err-len-clause-read c =
    let error = err_from_is_err_and c.from_residual.result c.from_residual.ensures.1 in
    rw (error.1, error.2) (stops_first read_word read_str (left_in c.args.cursor) _ c.in_err-len.ensures str_none)

pub returns-in_err-spans-clause-read : goal.returns-in_err-spans-clause-read
returns-in_err-spans-clause-read c =
    let error = err_from_is_err_and c.from_residual-in_err-spans.result c.from_residual-in_err-spans.ensures.1 in
    rw (error.1, error.2) (stops_second (λ text. c.in_ok-len.len) read_word (read_bytes c.in_ok-len.len) read_str (left_in c.args.cursor) (left_in c.in_ok-len.behind) c.in_ok-len.ensures _ c.in_err-spans.ensures.read
    (λ text bytes rest is none. str_as bytes c.in_ok-len.len rest None is none))

pub returns-clause-read : goal.returns-clause-read
returns-clause-read c =
    both_read (λ text. c.in_ok-len.len) read_word (read_bytes c.in_ok-len.len) read_str (left_in c.args.cursor) (left_in c.in_ok-len.behind) c.in_ok-len.ensures
    (λ text. shown text c.in_ok-spans.spans) (left_in c.in_ok-spans.behind) (λ text. shown text c.in_ok-spans.spans) c.in_ok-spans.ensures.read
    (λ text bytes rest more is next. str_as bytes c.in_ok-len.len rest _ is next)

pub returns-clause-places : goal.returns-clause-places
returns-clause-places c = places_behind (left_in c.args.cursor) (left_in c.in_ok-len.behind) c.in_ok-spans.spans (left_in c.in_ok-spans.behind) c.in_ok-len.ensures.goes c.in_ok-spans.ensures.places
