use Rattle.std.proofs.Common.{subst, get_or}
use Rattle.workspaces.specs.Space.{owners}
use Rattle.collect.specs.Steps.{GivesUses}
use Rattle.collect.proofs.uses.uses_of.Goals as goal

pub returns-in-Ok : goal.returns-in-Ok
returns-in-Ok c = λ d.
    let p = get_or (owners c.args.packages.now) c.args.number d in
    subst (λ lock. GivesUses c.args.packages.now lock p c.owner_uses.result) c.in-Ok.ensures.lock (c.owner_uses.ensures d)
