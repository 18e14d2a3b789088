use Rattle.std.proofs.Common.{ap, ◌∙◌}
use Rattle.spawn_dev.proofs.world.MemWorldTree.list.Goals as goal

pub invariant_of-self : goal.invariant_of-self
invariant_of-self c = record { absent = λ path held. ap (λ files. files path) c.list.ensures.looks.files ∙ c.args.self.now.absent path held }
