use Rattle.pair_frames.proofs.Several.{several_pairs, several_follow, several_size, several_even, several_full, several_writable}
use Rattle.pair_frames.proofs.laws.several_law.Goals as goal

pub returns : goal.returns
returns c = record {
  pairs = λ room fs pairs. several_pairs pairs room fs;
  follow = λ room fs pairs. several_follow pairs room fs;
  size = λ room fs pairs. several_size pairs room fs;
  even = λ room fs pairs. several_even pairs room fs;
  full = λ room fs pairs. several_full pairs room fs;
  writable = λ room fs pairs. several_writable pairs room fs;
}
