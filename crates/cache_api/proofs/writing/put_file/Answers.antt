use Rattle.std.proofs.Common.{◌≡◌, ◌∙◌, List, ℕ, subst}
use Rattle.std.specs.Prelude.{IsUtf8}
use Rattle.codes.specs.Codes.{IsShort}
use Rattle.cache_api.proofs.Steps.{file_fits}
use Rattle.cache_api.proofs.writing.put_file.Goals as goal

pub returns-clause-fits : goal.returns-clause-fits
returns-clause-fits c =
    let seen : c.as_str.result.now ≡ c.in_ok-text.text = c.as_str.ensures in
    let text : c.as_bytes.result.now ≡ c.in_ok-text.text = c.as_bytes.ensures.value ∙ seen in
    let bytes : c.as_slice.result.now ≡ c.args.file.now.1 = c.as_slice.ensures in
    file_fits c.args.file.now c.in_ok-text.text c.in_ok-text.ensures.value c.in_ok-text.ensures.back
    (subst IsUtf8 seen c.as_str.utf8)
    (subst (λ (l : List ℕ). IsShort l) text c.in_ok-put_str.ensures.short)
    (subst (λ (l : List ℕ). IsShort l) bytes c.in_ok-put_str-2.ensures.short)
