use Rattle.std.proofs.Common.{◌∙◌, subst, []}
use Rattle.workspaces.specs.Steps.{AddsEdges}
use Rattle.workspaces.proofs.EdgeLists.{all_maps}
use Rattle.workspaces.proofs.edge_lists.edge_places.Goals as goal

pub returns-clause-value : goal.returns-clause-value
returns-clause-value c =
    let own = c.args.own.now in
    let m = c.args.manifest.now in
    let first : AddsEdges c.args.packages.now own m m.optional [] c.add_edges.new.found.items = subst (λ old. AddsEdges c.args.packages.now own m m.optional old c.add_edges.new.found.items) c.new-found.ensures.items c.in_ok-add_edges.ensures.added in
    c.from_vec.ensures ∙ (c.in_ok-sorted_numbers.ensures.value ∙ all_maps c.args.packages.now own m _ _ _ first c.in_ok-add_edges-2.ensures.added c.in_ok-add_edges-3.ensures.added)
