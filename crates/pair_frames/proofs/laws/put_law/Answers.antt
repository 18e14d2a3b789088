use Rattle.std.proofs.Common.{[]}
use Rattle.pair_frames.specs.Runs.{key_runs, value_runs}
use Rattle.pair_frames.specs.Puts.{pair_blobs}
use Rattle.std.proofs.Common.{◌++◌}
use Rattle.pair_frames.proofs.Cutting.{pieces_maximal}
use Rattle.pair_frames.proofs.Sizes.{size_ample}
use Rattle.pair_frames.proofs.Putting.{put_pairs, put_follow, put_once, put_writable}
use Rattle.pair_frames.proofs.laws.put_law.Goals as goal

pub returns : goal.returns
returns c = record {
  pairs = put_pairs;
  follow = put_follow;
  size = size_ample;
  key_maximal = λ fs pair. pieces_maximal (fs ++ pair_blobs fs pair) [] (key_runs pair.0);
  value_maximal = λ fs pair. pieces_maximal (fs ++ pair_blobs fs pair) [] (value_runs pair.1);
  once = put_once;
  writable = put_writable;
}
