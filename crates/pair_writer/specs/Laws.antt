-- How a pool goes on behind frames that were appended.
use Rattle.std.proofs.Common.{◌≡◌, ◌+◌, ◌≤◌, List, ◌++◌, length, sym, subst, arith}
use Rattle.std.proofs.lemmas.List.{length-take-le}
use Rattle.store_dev.specs.declared.device.StoreDevice.{Ghosts}
use Rattle.record_log.specs.declared.log.Log.{Log}
use Rattle.record_log.specs.Kinds.{Entry}
use Rattle.record_log.specs.Log.{frames_in, count_of}
use Rattle.blob_pool.specs.declared.pool.Pool.{Pool}
use Rattle.blob_pool.specs.Known.{IsPoolOf, Knows, known_in}
use Rattle.pair_writer.specs.Learning.{GoesOn}

-- it knows the log that was appended to
pub knows_after : {S : Type 0} {G : Ghosts S} (pool next : Pool) (old new : Log S G)
    (es : List Entry) → Knows pool old → GoesOn (count_of old) es pool next
    → count_of new ≡ count_of old + length es
    → (G.tells → known_in new ≡ known_in old ++ es) → Knows next new
knows_after pool next old new es knows goes count known = record {
  told = λ told.
      let few : count_of old ≤ length (frames_in old) = (old.front told).few in
      subst (IsPoolOf next) (sym (known told))
      (goes.told (known_in old) (sym (length-take-le (count_of old) (frames_in old) few))
      (knows.told told));
  below = λ i inside. omega (arith, goes.below knows.below i inside, count);
  even = goes.even knows.even;
}
