use Rattle.std.proofs.Common.{subst, Vec, Global, List, ℕ}
use Rattle.collect.specs.Steps.{AllUses}
use Rattle.collect.proofs.uses.all_uses.Goals as goal

pub returns-in-Ok : goal.returns-in-Ok
returns-in-Ok c =
    subst (λ lock. AllUses c.args.packages.now lock c.args.tasks.now (λ (us : Vec (List (List ℕ × List ℕ)) Global). us.items) c.each_uses.result) c.in-Ok.ensures.lock c.each_uses.ensures
