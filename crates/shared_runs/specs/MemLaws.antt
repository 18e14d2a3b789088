-- What a shared file in memory holds and will hold.
use Rattle.std.proofs.Common.{◌≡◌, ℕ, List, Ok, refl}
use Rattle.std.specs.Prelude.{◌-◌}
use Rattle.rel_path.specs.Limits.{store_limit}
use Rattle.store_dev.specs.MemStore as device
use Rattle.store_dev.specs.Record.{reads_as_one}
use Rattle.cache_api.specs.Pairs.{Pair}
use Rattle.record_log.specs.Kinds.{Entry}
use Rattle.record_log.specs.Frames.{reading, frames_of, ends, IsSound}
use Rattle.pair_frames.specs.Puts.{added}
use Rattle.shared_runs.specs.declared.memory.MemShared.{MemShared}
use Rattle.shared_runs.specs.Frames.{StartWith}
use Rattle.shared_runs.specs.MemShared.{bytes_of, images_of, pairs_coming, coming_of}
use Rattle.shared_runs.specs.Others.{with_pairs, frames_with}

pub reads_as_image : (m : MemShared) → images_of m (bytes_of m)
reads_as_image m =
    reads_as_one (device.bytes_of m.file) (device.start_of m.file) (device.steps_of m.file)
    m.file.replayed

-- the frames of a store once pairs were put
pub frames_with_is : (bytes : List ℕ) (es : List Entry) (pairs : List Pair) → reading bytes ≡ Ok es
    → frames_with bytes pairs ≡ with_pairs es pairs
unfolding frames_with
frames_with_is bytes es pairs is = rw (is, frames_with) refl

pub stays_coming : (m : MemShared) → IsSound (bytes_of m)
    → StartWith (frames_of (bytes_of m)) (coming_of m)
stays_coming m sound =
    let es = frames_of (bytes_of m) in (
      added (store_limit - ends es) es (pairs_coming m),
      frames_with_is (bytes_of m) es (pairs_coming m) sound,
    )
