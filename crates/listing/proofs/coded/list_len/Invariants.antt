use Rattle.std.proofs.Common.{◌≡◌, ◌+◌, length, take}
use Rattle.codes.specs.Codes.{items}
use Rattle.listing.specs.Memory.{capped}
use Rattle.listing.proofs.coded.list_len.Given as goal

-- the count and the items so far
abbrev pub invariant-loop-item : goal.invariant-loop-item
invariant-loop-item g l = l.len ≡ capped (4 + length (items g.T.Coded.code (take l.item-index l.all)))
