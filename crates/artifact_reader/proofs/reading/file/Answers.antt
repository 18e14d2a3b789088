use Rattle.std.proofs.Common.{None}
use Rattle.std.proofs.lemmas.Result.{err_from_is_err_and}
use Rattle.codes.specs.Codes.{read_str}
use Rattle.cache_api.specs.Reading.{read_path, read_file}
use Rattle.artifact_reader.specs.Parts.{shown}
use Rattle.artifact_reader.specs.Cursors.{left_in}
use Rattle.artifact_reader.proofs.Sequence.{stops_first, stops_second, both_read, places_behind}
use Rattle.artifact_reader.proofs.Values.{both_none, both_short, both_some, file_as}
use Rattle.artifact_reader.proofs.reading.file.Goals as goal

pub returns-in_err-path-clause-read : goal.returns-in_err-path-clause-read
returns-in_err-path-clause-read c =
    let error = err_from_is_err_and c.from_residual.result c.from_residual.ensures.1 in
    rw (error.1, error.2) (stops_first read_path read_file (left_in c.args.cursor) _ c.in_err-path.ensures (λ bytes none. file_as bytes None (both_none read_path read_str bytes none)))

pub returns-in_err-spans-clause-read : goal.returns-in_err-spans-clause-read
returns-in_err-spans-clause-read c =
    let error = err_from_is_err_and c.from_residual-in_err-spans.result c.from_residual-in_err-spans.ensures.1 in
    rw (error.1, error.2) (stops_second (λ text. c.in_ok-path.path) read_path read_str read_file (left_in c.args.cursor) (left_in c.in_ok-path.behind) c.in_ok-path.ensures _ c.in_err-spans.ensures.read
    (λ text bytes rest is none. file_as bytes None (both_short read_path read_str bytes c.in_ok-path.path rest is none)))

pub returns-clause-read : goal.returns-clause-read
returns-clause-read c =
    both_read (λ text. c.in_ok-path.path) read_path read_str read_file (left_in c.args.cursor) (left_in c.in_ok-path.behind) c.in_ok-path.ensures
    (λ text. shown text c.in_ok-spans.spans) (left_in c.in_ok-spans.behind) (λ text. (c.in_ok-path.path, shown text c.in_ok-spans.spans)) c.in_ok-spans.ensures.read
    (λ text bytes rest more is next. file_as bytes _ (both_some read_path read_str bytes c.in_ok-path.path rest _ more is next))

pub returns-clause-places : goal.returns-clause-places
returns-clause-places c = places_behind (left_in c.args.cursor) (left_in c.in_ok-path.behind) c.in_ok-spans.spans (left_in c.in_ok-spans.behind) c.in_ok-path.ensures.goes c.in_ok-spans.ensures.places
