use Rattle.std.proofs.Common.{rules}
use Rattle.std.proofs.lemmas.Fn.{filter_same}
use Rattle.tree_dev.specs.Memory.{is_elsewhere}
use Rattle.tree_dev.proofs.memory.remove_at.Goals as goal

pub returns : goal.returns
returns c = filter_same _ (is_elsewhere c.args.path.now) _ (λ x b f r. search rules) _ _ c.retain.ensures.filtered
