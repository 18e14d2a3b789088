use Rattle.std.proofs.Common.{◌≡◌, ◌++◌, map, subst, append_assoc}
use Rattle.workspaces.specs.Members.{edges_of}
use Rattle.workspaces.proofs.Loops.{turn}
use Rattle.workspaces.proofs.packages.all_edges.Goals as goal

pub loop-member-preserved : goal.loop-member-preserved
unfolding edges_of
loop-member-preserved c =
    let packages = c.args.packages.now in
    let i = c.loop-member.member-index in
    let next = turn packages i c.member-item.result (c.loop-member-test.true, c.member-item.is) in
    let row : c.in_ok-edge_places.field-0 ≡ edges_of packages c.member-item.result = c.in_ok-edge_places.ensures.value in
    rw (c.in_ok-push.ensures.items, append_assoc, row) (subst (λ d. c.loop-member.rows.items ++ map (edges_of packages) d ≡ map (edges_of packages) packages) next c.loop-member.invariant)
