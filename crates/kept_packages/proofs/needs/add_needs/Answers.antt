use Rattle.std.proofs.lemmas.Result.{on_ok_weaker}
use Rattle.workspaces.specs.Space.{owners}
use Rattle.repository.specs.Reading.{contents_of}
use Rattle.kept_packages.proofs.Gains.{there}
use Rattle.kept_packages.proofs.Needing.{needs_one}
use Rattle.kept_packages.proofs.needs.add_needs.Goals as goal

pub returns-clause-added : goal.returns-clause-added
returns-clause-added c =
    let contents = contents_of c.args.repository.now in
    let p = there (owners contents.space) c.args.owner c.requires.owner in
    on_ok_weaker c.add_all.result (λ gains. needs_one contents c.args.owner p.0 c.args.found.now.items c.add_edges.new.found.items c.add_named.new.found.items c.add_linked.new.found.items c.add_all.new.found.items p.1
    c.in_ok-add_edges.ensures.added c.in_ok-add_named.ensures.added c.in_ok-add_linked.ensures.added gains) c.add_all.ensures.added
