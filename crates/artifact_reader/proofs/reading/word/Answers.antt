use Rattle.std.proofs.Common.{sym, ◌∙◌, ap}
use Rattle.std.proofs.lemmas.Result.{err_from_is_err_and}
use Rattle.codes.specs.Codes.{read_bytes, read_word}
use Rattle.artifact_reader.specs.Cursors.{left_in}
use Rattle.artifact_reader.proofs.Sequence.{stops_first}
use Rattle.artifact_reader.proofs.Words.{word_some, word_none, word_there, word_is_there}
use Rattle.artifact_reader.proofs.reading.word.Goals as goal

pub returns-in_err-bytes : goal.returns-in_err-bytes
returns-in_err-bytes c =
    let error = err_from_is_err_and c.from_residual.result c.from_residual.ensures.1 in
    rw (error.1, error.2) (stops_first (read_bytes 4) read_word (left_in c.args.cursor) _ c.in_err-bytes.ensures word_none)

pub returns-in-Some : goal.returns-in-Some
returns-in-Some c = record { goes = c.in_ok-bytes.ensures.goes; is = λ low text on. word_some _ c.in_ok-bytes.bytes.items _ _ _ (c.in_ok-bytes.ensures.is low text on) (ap read_word (sym c.as_slice.ensures.value) ∙ sym c.in-Some.ensures) }

pub returns : goal.returns
returns c = λ low text on. let at = c.in_ok-bytes.ensures.is low text on in absurd (word_is_there c.in_ok-bytes.bytes.items (word_there _ _ _ at) (ap read_word (sym c.as_slice.ensures.value) ∙ sym c.in-None.ensures))
