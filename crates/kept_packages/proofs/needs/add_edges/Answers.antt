use Rattle.std.proofs.Common.{◌≡◌, ◌∙◌, ◌++◌, ap}
use Rattle.workspaces.specs.declared.member.Package.{Package}
use Rattle.workspaces.specs.Members.{edges_of}
use Rattle.workspaces.specs.Space.{owners}
use Rattle.kept_packages.proofs.Gains.{held, there}
use Rattle.kept_packages.proofs.Needing.{edges_gain}
use Rattle.kept_packages.proofs.needs.add_edges.Goals as goal

pub returns-clause-added : goal.returns-clause-added
returns-clause-added c =
    let space = c.args.packages.now in
    let p = there (owners space) c.args.owner c.requires in
    let edges = held (λ (q : Package). c.edges.result.now ≡ edges_of space.packages q) (owners space) c.args.owner p.0 c.edges.ensures p.1 in
    edges_gain space c.args.owner p.0 c.args.found.now.items c.extend_from_slice.new.self.items p.1 (c.in_ok-extend_from_slice.ensures.items ∙ ap (λ ns. c.args.found.now.items ++ ns) (c.as_slice.ensures ∙ edges))
