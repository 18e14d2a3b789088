use Rattle.std.proofs.Common.{arith}
use Rattle.std.proofs.lemmas.Result.{err_from_is_err_and}
use Rattle.codes.specs.Codes.{read_str, read_both}
use Rattle.cache_api.specs.Reading.{read_files}
use Rattle.artifact_reader.specs.Parts.{shown}
use Rattle.artifact_reader.specs.Cursors.{left_in}
use Rattle.artifact_reader.specs.Reads.{files_in}
use Rattle.artifact_reader.proofs.Sequence.{stops_first, stops_second, both_read}
use Rattle.artifact_reader.proofs.Values.{both_none, both_short, both_some}
use Rattle.artifact_reader.proofs.Wholes.{stops, more_behind, nothing_behind}
use Rattle.artifact_reader.proofs.artifact.hit_at.Goals as goal

pub returns-in_err-log : goal.returns-in_err-log
returns-in_err-log c =
    let error = err_from_is_err_and c.from_residual.result c.from_residual.ensures.1 in
    rw (error.1, error.2) (stops (left_in c.args.cursor) _ (stops_first read_str (read_both read_str read_files) (left_in c.args.cursor) _ c.in_err-log.ensures.read (both_none read_str read_files)))

pub returns-in_err-files : goal.returns-in_err-files
returns-in_err-files c =
    let error = err_from_is_err_and c.from_residual-in_err-files.result c.from_residual-in_err-files.ensures.1 in
    rw (error.1, error.2) (stops (left_in c.args.cursor) _ (
    stops_second (λ text. shown text c.in_ok-log.log) read_str read_files (read_both read_str read_files) (left_in c.args.cursor) (left_in c.in_ok-log.behind) c.in_ok-log.ensures.read _ c.in_err-files.ensures.read
    (λ text bytes rest is none. both_short read_str read_files bytes (shown text c.in_ok-log.log) rest is none)))

pub returns-in-Some : goal.returns-in-Some
returns-in-Some c =
    let both = both_read (λ text. shown text c.in_ok-log.log) read_str read_files (read_both read_str read_files) (left_in c.args.cursor) (left_in c.in_ok-log.behind) c.in_ok-log.ensures.read
    (λ text. files_in text c.in_ok-files.files) (left_in c.in_ok-files.behind) (λ text. (shown text c.in_ok-log.log, files_in text c.in_ok-files.files)) c.in_ok-files.ensures.read
    (λ text bytes rest more is next. both_some read_str read_files bytes (shown text c.in_ok-log.log) rest _ more is next) in
    more_behind (λ text. (shown text c.in_ok-log.log, files_in text c.in_ok-files.files)) (left_in c.args.cursor) (left_in c.in_ok-files.behind) 1 _ _ both c.in-Some.ensures.some

pub returns-in-None : goal.returns-in-None
returns-in-None c =
    let both = both_read (λ text. shown text c.in_ok-log.log) read_str read_files (read_both read_str read_files) (left_in c.args.cursor) (left_in c.in_ok-log.behind) c.in_ok-log.ensures.read
    (λ text. files_in text c.in_ok-files.files) (left_in c.in_ok-files.behind) (λ text. (shown text c.in_ok-log.log, files_in text c.in_ok-files.files)) c.in_ok-files.ensures.read
    (λ text bytes rest more is next. both_some read_str read_files bytes (shown text c.in_ok-log.log) rest _ more is next) in
    record {
      is = nothing_behind (λ text. (shown text c.in_ok-log.log, files_in text c.in_ok-files.files)) (left_in c.args.cursor) (left_in c.in_ok-files.behind) both c.in-None.ensures.none;
      lies = λ low text on. record {
        log = c.in_ok-log.ensures.places.lie low text on;
        files = c.in_ok-files.ensures.places.lie low text (c.in_ok-log.ensures.read.goes.on low text on);
      };
      few = omega (arith, c.in_ok-log.ensures.places.few, c.in_ok-files.ensures.places.few);
    }
