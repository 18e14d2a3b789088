use Rattle.std.proofs.Common.{◌∙◌, ap, filter, arith}
use Rattle.std.proofs.lemmas.List.{take_all}
use Rattle.repository.specs.Reading.{contents_of}
use Rattle.pruned_files.specs.Calls.{owners_at}
use Rattle.pruned_files.specs.Layers.{is_manifest_layer}
use Rattle.pruned_files.proofs.Members.{kept_at}
use Rattle.pruned_files.proofs.layers.layer_paths.Goals as goal

pub returns-clause-layer : goal.returns-clause-layer
returns-clause-layer c = λ set are.
    let space = c.args.repository.now.packages in
    let members = owners_at space c.as_slice.result.now in
    c.loop-path.invariant members c.in_ok-folders.ensures.value
    ∙ ap (filter (is_manifest_layer members)) (take_all c.loop-path.path-index c.as_slice-path-items.result.now (omega (arith, c.loop-path-test.false)) ∙ c.as_slice-path-items.ensures)
    ∙ ap (λ ms. filter (is_manifest_layer ms) c.args.paths.now) (ap (owners_at space) (c.as_slice.ensures ∙ are) ∙ kept_at (contents_of c.args.repository.now) set)
