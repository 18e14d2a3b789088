use Rattle.std.proofs.Common.{take}
use Rattle.std.specs.List.{All}
use Rattle.tree_dev.specs.Names.{IsProper}
use Rattle.tree_dev.specs.Listing.{Gives, deepest}
use Rattle.tree_dev.proofs.listing.all_names.Given as goal

abbrev pub invariant-loop-file : goal.invariant-loop-file
invariant-loop-file l = record {
  gives : Gives (take l.file-index l.files) l.folder l.names.items;
  proper : All (IsProper (deepest l.files) l.folder) l.names.items;
}
