-- What is known of a shared file between two turns of a run.
use Rattle.std.specs.Prelude.{◌≡◌, ℕ, ◌≤◌, List, length}
use Rattle.store_dev.specs.Device.{Only}
use Rattle.record_log.specs.Frames.{frames_of, IsSound}
use Rattle.artifact_store.specs.declared.mark.StoreMark.{StoreMark}
use Rattle.artifact_store.specs.Marks.{IsMarkOf, foreseen}
use Rattle.shared_runs.specs.Costs.{any_length}
use Rattle.shared_runs.specs.Views.{pairs_at}

-- The file is a store, the mark is that of its first frames and foresees keys of any length, and a
-- crash leaves what the file holds.
pub record IsMarked (mark : StoreMark) (file : List ℕ) (images : List ℕ → Type 0) : Type 0 where
  pub sound : IsSound file
  pub mark_is : IsMarkOf mark (frames_of file)
  pub foresees : foreseen mark ≡ any_length
  pub durable : Only file images

-- and it has at least so many pairs
pub record IsKept (mark : StoreMark) (pairs : ℕ) (file : List ℕ) (images : List ℕ → Type 0)
    : Type 0 where
  pub marked : IsMarked mark file images
  pub few : pairs ≤ length (pairs_at file)
