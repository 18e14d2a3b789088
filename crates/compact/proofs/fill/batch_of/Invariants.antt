use Rattle.compact.proofs.Batching.{IsBatching}
use Rattle.compact.proofs.fill.batch_of.Given as goal

abbrev pub invariant-loop-taken : goal.invariant-loop-taken
invariant-loop-taken g l = IsBatching l.fn.from l.from l.numbers l.most l.held.items l.room l.taken
