use Rattle.std.proofs.Common.{◌≡◌, subst}
use Rattle.std.specs.List.{HoldsAt}
use Rattle.workspaces.specs.Members.{needs_by}
use Rattle.workspaces.specs.Space.{owners}
use Rattle.workspaces.proofs.Owners.{at_root}
use Rattle.collect.proofs.Installed.{root_are}
use Rattle.collect.proofs.uses.add_root_starts.Goals as goal

pub returns-clause-added : goal.returns-clause-added
returns-clause-added c =
    let space = c.args.packages.now in
    root_are space c.args.starts.now.items c.add_needs.new.starts.items c.in_ok-root.root c.needs.result.now c.in_ok-add_needs.ensures.added c.in_ok-root.ensures.value
    (at_root (λ p. c.needs.result.now ≡ needs_by space.packages p) space (subst (HoldsAt (λ p. c.needs.result.now ≡ needs_by space.packages p) (owners space)) c.count.ensures.value c.needs.ensures))
