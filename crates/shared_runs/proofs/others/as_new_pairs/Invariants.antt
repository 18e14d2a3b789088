use Rattle.std.proofs.Common.{◌≡◌, ◌++◌, drop}
use Rattle.cache_api.specs.Keys.{new_pairs}
use Rattle.shared_runs.specs.Others.{pairs_of}
use Rattle.shared_runs.proofs.others.as_new_pairs.Given as goal

abbrev pub invariant-loop-put : goal.invariant-loop-put
invariant-loop-put l = new_pairs l.pairs.items ++ pairs_of (drop l.put-index l.puts)
    ≡ pairs_of l.puts
