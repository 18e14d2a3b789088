-- What the first turn of a run tells.
use Rattle.std.specs.Prelude.{◌≡◌, ℕ, List, length, Ok}
use Rattle.store_dev.specs.Device.{Only}
use Rattle.record_log.specs.Kinds.{Entry}
use Rattle.record_log.specs.Frames.{reading, frames_of, IsSound}
use Rattle.artifact_store.specs.declared.mark.StoreMark.{StoreMark}
use Rattle.artifact_store.specs.Marks.{IsMarkOf, foreseen}
use Rattle.artifact_store.specs.Pairs.{free_in}
use Rattle.shared_runs.specs.Costs.{any_length}
use Rattle.shared_runs.specs.Views.{pairs_at}

-- the file was a store, and it is one of the frames that were to come
pub record IsFirstTurn (old : List ℕ) (coming : List Entry) (new : List ℕ) : Type 0 where
  pub sound : IsSound old
  pub read : reading new ≡ Ok coming

-- The mark is that of the file's frames, which hold so many pairs and leave so much room, and it
-- foresees keys of any length; and a crash leaves what the file holds.
pub record TellsFile (mark : StoreMark) (pairs room : ℕ) (file : List ℕ) (images : List ℕ → Type 0)
    : Type 0 where
  pub sound : IsSound file
  pub durable : Only file images
  pub mark_is : IsMarkOf mark (frames_of file)
  pub foresees : foreseen mark ≡ any_length
  pub count : pairs ≡ length (pairs_at file)
  pub free : room ≡ free_in file
