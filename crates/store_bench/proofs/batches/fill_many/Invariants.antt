use Rattle.std.specs.Prelude.{IsTrue}
use Rattle.record_log.specs.Log.{is_whole}
use Rattle.store_bench.proofs.batches.fill_many.Given as goal

abbrev pub invariant-loop : goal.invariant-loop
invariant-loop g l = IsTrue (is_whole l.log)
