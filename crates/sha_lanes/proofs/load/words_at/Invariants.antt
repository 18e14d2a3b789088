use Rattle.std.proofs.Common.{◌≡◌, ◌*◌, length}
use Rattle.sha2.specs.Sha256.{first_words}
use Rattle.sha_lanes.specs.Lanes.{HasWords, block_at}
use Rattle.sha_lanes.proofs.load.words_at.Given as goal

abbrev pub invariant-rows : goal.invariant-rows
invariant-rows l = (length l.w ≡ 64)
    × HasWords l.w 0 (first_words (block_at l.first l.at) 16) (4 * l.place)
    × HasWords l.w 1 (first_words (block_at l.second l.at) 16) (4 * l.place)
    × HasWords l.w 2 (first_words (block_at l.third l.at) 16) (4 * l.place)
    × HasWords l.w 3 (first_words (block_at l.fourth l.at) 16) (4 * l.place)
