-- A store that is only read.
use Rattle.std.proofs.Common.{◌≡◌, ◌<◌, ◌≤◌, ℕ, List, Option, refl, ◌∙◌, ap, length, drop}
use Rattle.std.specs.Prelude.{IsTrue, IfSome}
use Rattle.store_dev.specs.declared.device.StoreDevice.{Ghosts}
use Rattle.blob_pool.specs.Laws.{reads_log_none, frames_read}
use Rattle.pair_frames.specs.Pairs.{pairs_in}
use Rattle.pair_index.specs.declared.index.Index.{Index}
use Rattle.pair_index.specs.Index.{frames_in}
use Rattle.artifact_store.specs.declared.store.Store.{Store}
use Rattle.artifact_store.specs.Store.{state_of, count_in, OnlyReadsStore}
use Rattle.compact.specs.declared.picks.Picks.{Picks}
use Rattle.compact.specs.Picks.{ArePicks, picked}
use Rattle.compact.proofs.Keys.{IsLeft}
use Rattle.compact.proofs.Choosing.{worthy, IsAtMost}

module _ {S : Type 0} {G : Ghosts S} where
  pub reads_none : (store : Store S G) → OnlyReadsStore store store
  reads_none store = record { log = reads_log_none store.log; index = refl; generation = refl }

  pub whole_read : (a b : Store S G) → OnlyReadsStore a b → IsTrue (state_of a).whole
      → IsTrue (state_of b).whole
  whole_read a b reads whole = reads.log.whole ∙ whole

  pub pairs_read : (a b : Store S G) → OnlyReadsStore a b → (state_of b).pairs ≡ (state_of a).pairs
  pairs_read a b reads = ap pairs_in (frames_read a.log b.log reads.log)

  pub count_read : (a b : Store S G) → OnlyReadsStore a b → count_in b ≡ count_in a
  count_read a b reads = ap (λ (index : Index). length (frames_in index)) reads.index

-- while a key is sought among pairs that were picked
pub record IsSeeking {S : Type 0} {G : Ghosts S} (first now : Store S G) (picks : Picks)
    (digest key : List ℕ) (next : Option ℕ) : Type 0 where
  pub reads : OnlyReadsStore first now
  pub faults : (state_of now).faults ≡ (state_of first).faults
  pub inside : IfSome next (λ place. place < length picks.prints.digests)
  pub left : G.tells
      → IsLeft (state_of first).pairs picks.numbers.items picks.prints.digests digest key next

-- while pairs are picked, from the last to the first
pub record IsPicking {S : Type 0} {G : Ghosts S} (first now : Store S G) (keep : Option ℕ)
    (left : ℕ) (picks : Picks) : Type 0 where
  pub reads : OnlyReadsStore first now
  pub faults : (state_of now).faults ≡ (state_of first).faults
  pub few : left ≤ count_in first
  pub all : G.tells → count_in first ≡ length (state_of first).pairs
  pub are : ArePicks first picks
  pub most : IsAtMost keep (length picks.numbers.items)
  pub picked : G.tells
      → picked (state_of first).pairs picks.numbers.items ≡ worthy (drop left (state_of first).pairs)
