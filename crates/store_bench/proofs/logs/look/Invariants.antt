use Rattle.std.proofs.Common.{◌≡◌}
use Rattle.record_log.specs.Log.{count_of}
use Rattle.store_bench.proofs.logs.look.Given as goal

abbrev pub invariant-loop-number : goal.invariant-loop-number
invariant-loop-number g l = l.count ≡ count_of l.log
