use Rattle.std.proofs.Common.{◌≡◌, ℕ, ◌*◌, ◌<◌, List}
use Rattle.sha2.specs.Sha256.{rounds}
use Rattle.sha_lanes.specs.Lanes.{HasWords, lane}
use Rattle.sha_lanes.proofs.block.compress.Given as goal

abbrev pub invariant-rounds : goal.invariant-rounds
invariant-rounds l = (j : ℕ) (words : List ℕ) → j < 4 → HasWords l.w j words 64 → lane j l.v ≡ rounds (lane j l.state) words (4 * l.turn)
