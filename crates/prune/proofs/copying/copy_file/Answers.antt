use Rattle.std.proofs.Common.{ℕ, subst}
use Rattle.prune.specs.Cause.{HasCause, counts_of}
use Rattle.prune.proofs.copying.copy_file.Goals as goal

pub returns-in-Ok-clause-cause : goal.returns-in-Ok-clause-cause
returns-in-Ok-clause-cause g c = λ sink. subst (λ (n : ℕ). HasCause (counts_of n sink) (counts_of (g.T.Tree.state c.write_found.new.tree).faults sink) c.write_found.result) c.in-Ok.ensures.cause.counted (c.write_found.ensures.cause sink)
