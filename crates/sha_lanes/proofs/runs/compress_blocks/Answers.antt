use Rattle.std.proofs.Common.{refl, arith}
use Rattle.sha2.specs.Sha256.{hash_after}
use Rattle.sha_lanes.proofs.Vectors.{hash_more}
use Rattle.sha_lanes.proofs.runs.compress_blocks.Goals as goal

pub taken-init : goal.taken-init
unfolding hash_after
taken-init c = (refl, refl, refl, refl)

pub taken-preserved : goal.taken-preserved
taken-preserved c = (
  hash_more _ _ _ _ c.taken.i c.taken.invariant.0 (c.compress.ensures 0 _ (omega arith) c.words_at.ensures.first),
  hash_more _ _ _ _ c.taken.i c.taken.invariant.1 (c.compress.ensures 1 _ (omega arith) c.words_at.ensures.second),
  hash_more _ _ _ _ c.taken.i c.taken.invariant.2 (c.compress.ensures 2 _ (omega arith) c.words_at.ensures.third),
  hash_more _ _ _ _ c.taken.i c.taken.invariant.3 (c.compress.ensures 3 _ (omega arith) c.words_at.ensures.fourth),
)
