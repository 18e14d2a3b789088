use Rattle.std.proofs.Common.{◌≡◌, ◌+◌, ◌≤◌, drop}
use Rattle.shared_runs.specs.Own.{stored_in}
use Rattle.shared_runs.proofs.own.stored.Given as goal

abbrev pub invariant-loop-put : goal.invariant-loop-put
invariant-loop-put l = record {
  sum : l.count + stored_in (drop l.put-index l.puts) ≡ stored_in l.puts;
  few : l.count ≤ l.put-index;
}
