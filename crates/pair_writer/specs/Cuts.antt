-- What cutting a text leaves of the frames that are staged and of its pieces.
use Rattle.std.specs.Prelude.{◌≡◌, ◌≤◌, ◌+◌, ◌*◌, List, ◌++◌, length}
use Rattle.codes.specs.Codes.{AreBytes}
use Rattle.record_log.specs.Kinds.{Entry}
use Rattle.pair_frames.specs.Runs.{Run, flat, contents_in}
use Rattle.cache_api.specs.declared.room.TheConstants.{ROOM_FOR_A_BYTE}
use Rattle.pair_frames.specs.Puts.{blobs_for}
use Rattle.pair_frames.specs.Cuts.{closed, open_bytes}
use Rattle.pair_writer.specs.declared.staged.Staged.{Staged}
use Rattle.pair_writer.specs.declared.pieces.Pieces.{Pieces}
use Rattle.pair_writer.specs.Staged.{entries, taken, Extends}
use Rattle.pair_writer.specs.Pieces.{Adds, open_in, weight}

-- Behind these frames: the contents of the runs that were missing are staged, and the pieces of the
-- runs name them.
pub record IsCutInto (fs : List Entry) (s t : Staged) (p q : Pieces) (runs : List Run)
    : Type 0 where
  pub frames : entries t ≡ entries s ++ blobs_for (fs ++ entries s) (contents_in runs)
  pub pieces : Adds p q (closed (fs ++ entries t) (open_in p) runs) (open_bytes (open_in p) runs)

-- The runs were cut. What is said of sizes holds also where the device tells no bytes.
pub record IsCut (tells : Type 0) (fs : List Entry) (s t : Staged) (p q : Pieces)
    (runs : List Run) : Type 0 where
  pub told : tells → IsCutInto fs s t p q runs
  pub grown : Extends (entries s) (entries t)
  pub light : taken t + weight q ≤ taken s + weight p + ROOM_FOR_A_BYTE * length (flat runs)
  pub bytes : AreBytes (flat runs)
