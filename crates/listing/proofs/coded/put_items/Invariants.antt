use Rattle.std.proofs.Common.{◌≡◌, ◌++◌, take}
use Rattle.codes.specs.Codes.{items, Each}
use Rattle.listing.proofs.coded.put_items.Given as goal

-- the items so far
abbrev pub invariant-loop-item : goal.invariant-loop-item
invariant-loop-item g l = (l.to.items ≡ l.initial.to.items ++ items g.T.Coded.code (take l.item-index l.all)) × Each g.T.Coded.fits (take l.item-index l.all)
