use Rattle.std.proofs.Common.{◌≡◌, Some, None, sym, ◌∙◌, ap}
use Rattle.std.proofs.lemmas.Result.{err_from_is_err_and}
use Rattle.codes.specs.Codes.{read_bytes, read_word}
use Rattle.cache_api.specs.Reading.{path_in, read_path}
use Rattle.artifact_reader.specs.Cursors.{left_in}
use Rattle.artifact_reader.proofs.Sequence.{stops_first, stops_second, both_read}
use Rattle.artifact_reader.proofs.Values.{str_none, str_as, path_none, path_bad, path_good}
use Rattle.artifact_reader.proofs.reading.path.Goals as goal

pub returns-in_err-len : goal.returns-in_err-len
returns-in_err-len c =
    let error = err_from_is_err_and c.from_residual.result c.from_residual.ensures.1 in
    rw (error.1, error.2) (stops_first read_word read_path (left_in c.args.cursor) _ c.in_err-len.ensures (λ bytes none. path_none bytes (str_none bytes none)))

pub returns-in_err-bytes : goal.returns-in_err-bytes
returns-in_err-bytes c =
    let error = err_from_is_err_and c.from_residual-in_err-bytes.result c.from_residual-in_err-bytes.ensures.1 in
    rw (error.1, error.2) (stops_second (λ text. c.in_ok-len.len) read_word (read_bytes c.in_ok-len.len) read_path (left_in c.args.cursor) (left_in c.in_ok-len.behind) c.in_ok-len.ensures _ c.in_err-bytes.ensures
    (λ text bytes rest is none. path_none bytes (str_as bytes c.in_ok-len.len rest None is none)))

pub returns-in-Ok-Some : goal.returns-in-Ok-Some
returns-in-Ok-Some c =
    let good : path_in c.in_ok-bytes.bytes.items ≡ Some c.in-Ok-Some.path = ap path_in (sym c.as_slice.ensures.value) ∙ sym c.in-Ok-Some.ensures.path ∙ c.in-Ok-Some.field-0-is in
    both_read (λ text. c.in_ok-len.len) read_word (read_bytes c.in_ok-len.len) read_path (left_in c.args.cursor) (left_in c.in_ok-len.behind) c.in_ok-len.ensures
    (λ text. c.in_ok-bytes.bytes.items) (left_in c.in_ok-bytes.behind) (λ text. c.in-Ok-Some.path) c.in_ok-bytes.ensures
    (λ text bytes rest more is next. path_good bytes c.in_ok-bytes.bytes.items more c.in-Ok-Some.path (str_as bytes c.in_ok-len.len rest _ is next) good)

pub returns-in-Ok-None : goal.returns-in-Ok-None
returns-in-Ok-None c =
    let bad : path_in c.in_ok-bytes.bytes.items ≡ None = ap path_in (sym c.as_slice.ensures.value) ∙ sym c.in-Ok-None.ensures.path ∙ c.in-Ok-None.field-0-is in
    λ low text on. path_bad _ c.in_ok-bytes.bytes.items _ (str_as _ c.in_ok-len.len _ _ (c.in_ok-len.ensures.is low text on) (c.in_ok-bytes.ensures.is low text (c.in_ok-len.ensures.goes.on low text on))) bad
