use Rattle.std.proofs.Common.{◌≡◌, ℕ, ◌<◌, List, length}
use Rattle.sha2.specs.Sha256.{first_words, schedule}
use Rattle.sha_lanes.specs.Lanes.{HasWords}
use Rattle.sha_lanes.proofs.block.extend.Given as goal

abbrev pub invariant-words : goal.invariant-words
invariant-words l = (length l.w ≡ 64)
    × ((j : ℕ) (block : List ℕ) → j < 4 → HasWords l.initial.w j (first_words block 16) 16 → HasWords l.w j (schedule block 48) l.t)
