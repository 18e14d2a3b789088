use Rattle.std.proofs.Common.{◌∙◌, subst}
use Rattle.std.specs.Prelude.{Option, IfSome, IsTrue}
use Rattle.cache_api.specs.declared.hit.Hit.{Hit}
use Rattle.cache_api.specs.Hits.{paths_ascend, owns_paths, ascends_is, owns_is}
use Rattle.cache_api.proofs.cache.Cache.find_keyed.Goals as goal

pub returns-clause-fits : goal.returns-clause-fits
returns-clause-fits g c =
    let files = c.in_ok-hit_artifact.field-0.files in
    let hit = c.in-Some.hit in
    let fit : IsTrue (paths_ascend hit) × IsTrue (owns_paths c.args.outs.now hit) =
    subst (λ (o : Option Hit). IfSome o (λ h. IsTrue (paths_ascend h) × IsTrue (owns_paths c.args.outs.now h))) c.in-Some.is c.in_ok-hit.ensures.fits in
    let same = c.in_ok-hit_artifact.ensures.paths in
    (ascends_is files hit same ∙ fit.0, owns_is c.args.outs.now files hit same ∙ fit.1)
