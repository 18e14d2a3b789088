use Rattle.std.proofs.Common.{length}
use Rattle.tree_dev.proofs.listing.+entry_of.Given as goal

abbrev pub decreases-entry_of : goal.decreases-entry_of
decreases-entry_of l = length l.path.now
