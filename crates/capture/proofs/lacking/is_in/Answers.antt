use Rattle.std.proofs.Common.{◌∙◌}
use Rattle.std.proofs.lemmas.Fn.{always_returns_same}
use Rattle.rel_path.specs.Paths.{path_cmp}
use Rattle.cache_api.specs.declared.hit.HitFile.{HitFile}
use Rattle.capture.proofs.Sought.{sought}
use Rattle.capture.proofs.lacking.is_in.Goals as goal

pub returns : goal.returns
returns c =
    let path = c.args.path.now in
    let at = c.binary_search_by.ensures.position (λ (f : HitFile). path_cmp f.path path)
    (always_returns_same _ _ _ (λ a r f' h. (h.met.0, h.met.1))) in
    c.is_ok.ensures.value
    ∙ sought (λ (f : HitFile). f.path) path c.args.files.now c.binary_search_by.result c.requires
    c.binary_search_by.ensures.bound at
