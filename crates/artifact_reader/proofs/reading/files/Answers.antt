use Rattle.std.proofs.Common.{◌≡◌, ◌-◌, ◌+◌, ◌++◌, ◌∷◌, [], None, arith}
use Rattle.std.proofs.lemmas.Result.{err_from_is_err_and}
use Rattle.codes.specs.Codes.{read_word, read_items}
use Rattle.cache_api.specs.Reading.{read_file, read_files}
use Rattle.artifact_reader.specs.Cursors.{left_in}
use Rattle.artifact_reader.specs.Reads.{files_in}
use Rattle.artifact_reader.proofs.Sequence.{stops_first, stops_second, both_read}
use Rattle.artifact_reader.proofs.Values.{files_none, files_as}
use Rattle.artifact_reader.proofs.Gathering.{one_file, stops_there, all_files, more_places}
use Rattle.artifact_reader.proofs.reading.files.Goals as goal

pub returns-in_err-count-clause-read : goal.returns-in_err-count-clause-read
returns-in_err-count-clause-read c =
    let error = err_from_is_err_and c.from_residual.result c.from_residual.ensures.1 in
    rw (error.1, error.2) (stops_first read_word read_files (left_in c.args.cursor) _ c.in_err-count.ensures files_none)

pub returns-in_err-file-clause-read : goal.returns-in_err-file-clause-read
returns-in_err-file-clause-read c =
    let error = err_from_is_err_and c.from_residual-in_err-file.result c.from_residual-in_err-file.ensures.1 in
    rw (error.1, error.2) (
    stops_second (λ text. c.in_ok-count.count) read_word (read_items read_file [] c.in_ok-count.count) read_files (left_in c.args.cursor) (left_in c.in_ok-count.first) c.in_ok-count.ensures _
    (stops_there (left_in c.in_ok-count.first) c.loop-i.files (left_in c.loop-i.behind) c.in_ok-count.count (c.in_ok-count.count - c.loop-i.i) (c.in_ok-count.count - (c.loop-i.i + 1)) _ c.loop-i.invariant.0 (omega (arith, c.loop-i-test.true)) c.in_err-file.ensures.read)
    (λ text bytes rest is none. files_as bytes c.in_ok-count.count rest None is none))

pub loop-i-preserved : goal.loop-i-preserved
loop-i-preserved c =
    let grown : c.push.new.self ≡ c.loop-i.files ++ c.in_ok-file.file ∷ [] = c.in_ok-push.ensures.pushed in (
      one_file (left_in c.in_ok-count.first) c.loop-i.files (left_in c.loop-i.behind) c.in_ok-count.count (c.in_ok-count.count - c.loop-i.i) (c.in_ok-count.count - (c.loop-i.i + 1)) c.in_ok-file.file c.push.new.self (left_in c.in_ok-file.next)
          c.loop-i.invariant.0 c.in_ok-file.ensures.read grown (omega (arith, c.loop-i-test.true)),
      more_places (left_in c.in_ok-count.first) c.loop-i.files (left_in c.loop-i.behind) c.in_ok-file.file c.push.new.self (left_in c.in_ok-file.next) c.loop-i.invariant.1 c.loop-i.invariant.0.goes c.in_ok-file.ensures.places grown,
      c.in_ok-file.ensures.read.goes.well c.loop-i.invariant.2,
    )

pub returns-clause-read : goal.returns-clause-read
returns-clause-read c =
    both_read (λ text. c.in_ok-count.count) read_word (read_items read_file [] c.in_ok-count.count) read_files (left_in c.args.cursor) (left_in c.in_ok-count.first) c.in_ok-count.ensures
    (λ text. files_in text c.loop-i.files) (left_in c.loop-i.behind) (λ text. files_in text c.loop-i.files)
    (all_files (left_in c.in_ok-count.first) c.loop-i.files (left_in c.loop-i.behind) c.in_ok-count.count (c.in_ok-count.count - c.loop-i.i) c.loop-i.invariant.0 (omega (arith, c.loop-i-test.false)))
    (λ text bytes rest more is next. files_as bytes c.in_ok-count.count rest _ is next)

pub returns-clause-places : goal.returns-clause-places
returns-clause-places c = record {
  lie = λ low text on. c.loop-i.invariant.1.lie low text (c.in_ok-count.ensures.goes.on low text on);
  few = omega (arith, c.loop-i.invariant.1.few, c.in_ok-count.ensures.goes.few);
}
