use Rattle.std.proofs.Common.{◌≡◌, ◌∙◌, Some, None, sym, ap}
use Rattle.rel_path.specs.Paths.{Path, text_fault, parts_of}
use Rattle.cache_api.proofs.Paths.{no_path, is_path}
use Rattle.cache_api.proofs.reading.path_in.Goals as goal

pub returns-in_default-clause-path : goal.returns-in_default-clause-path
returns-in_default-clause-path c = sym (no_path c.args.text.now c.in_default.ensures.cases.0)

pub returns-in-Ok-read-clause-path : goal.returns-in-Ok-read-clause-path
returns-in-Ok-read-clause-path c =
    let same : c.in-Ok.text.now ≡ c.args.text.now = c.in-Ok.ensures.cases.0 in
    let sound : text_fault c.args.text.now ≡ None = ap text_fault (sym same) ∙ c.in-Ok-read.ensures.ok.0 in
    let path : c.in-Ok-read.path ≡ parts_of c.args.text.now = c.in-Ok-read.ensures.ok.1 ∙ ap parts_of same in
    ap (λ (p : Path). Some p) path ∙ sym (is_path c.args.text.now c.in-Ok.ensures.cases.1 sound)
