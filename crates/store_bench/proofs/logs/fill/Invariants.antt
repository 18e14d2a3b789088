use Rattle.std.specs.Prelude.{IsTrue}
use Rattle.store_bench.proofs.logs.fill.Given as goal

abbrev pub invariant-loop : goal.invariant-loop
invariant-loop g l = IsTrue l.log.whole
