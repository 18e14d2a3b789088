use Rattle.std.proofs.Common.{◌≡◌, ◌++◌, map, subst, append_assoc}
use Rattle.workspaces.specs.Members.{needs_by}
use Rattle.workspaces.proofs.Loops.{turn}
use Rattle.workspaces.proofs.packages.all_needs.Goals as goal

pub loop-member-preserved : goal.loop-member-preserved
unfolding needs_by
loop-member-preserved c =
    let packages = c.args.packages.now in
    let i = c.loop-member.member-index in
    let next = turn packages i c.member-item.result (c.loop-member-test.true, c.member-item.is) in
    let row : c.in_ok-needs_of.field-0 ≡ needs_by packages c.member-item.result = c.in_ok-needs_of.ensures.value in
    rw (c.in_ok-push.ensures.items, append_assoc, row) (subst (λ d. c.loop-member.needs.items ++ map (needs_by packages) d ≡ map (needs_by packages) packages) next c.loop-member.invariant)
