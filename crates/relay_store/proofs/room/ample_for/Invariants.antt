use Rattle.std.proofs.Common.{◌≡◌, take}
use Rattle.std.specs.Prelude.{sum_by}
use Rattle.cache_api.specs.Cache.{ample}
use Rattle.cache_api.specs.Keys.{new_pairs}
use Rattle.cache_api.specs.Memory.{capped}
use Rattle.relay_store.proofs.room.ample_for.Given as goal

abbrev pub invariant-loop-pair : goal.invariant-loop-pair
invariant-loop-pair l = l.room ≡ capped (sum_by ample (new_pairs (take l.pair-index l.pairs)))
