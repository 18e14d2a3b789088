-- What is known of the frames of a store.
use Rattle.std.specs.Prelude.{◌≡◌, ℕ, ◌≤◌, List, length, take}
use Rattle.record_log.specs.Kinds.{Entry}
use Rattle.record_log.specs.Kept as log
use Rattle.blob_pool.specs.Known.{KnowsFirst}
use Rattle.pair_reader.specs.declared.wanted.Lengths.{Lengths}
use Rattle.pair_index.specs.Index.{IsIndexOf, lengths_in}
use Rattle.artifact_store.specs.declared.mark.StoreMark.{StoreMark}

-- how many frames are known
abbrev pub marked : StoreMark → ℕ
marked mark = mark.count

-- whose keys' fingerprints are kept
abbrev pub foreseen : StoreMark → Lengths
foreseen mark = lengths_in mark.index

-- the first of these frames, as many as are known, are those of which the log's mark, the pool and
-- the index tell
pub record IsMarkOf (mark : StoreMark) (fs : List Entry) : Type 0 where
  pub count : log.marked mark.log ≡ marked mark
  pub few : marked mark ≤ length fs
  pub log : log.IsMarkOf mark.log fs
  pub pool : KnowsFirst mark.pool fs (marked mark)
  pub index : IsIndexOf mark.index (take (marked mark) fs)
