use Rattle.std.proofs.Common.{take}
use Rattle.serde_json.specs.View.{view}
use Rattle.pruned_files.specs.Calls.{AreLocations}
use Rattle.pruned_files.proofs.cut.locations.Given as goal

-- those of the owners so far
abbrev pub invariant-loop-number : goal.invariant-loop-number
invariant-loop-number l = AreLocations l.packages (view l.lock) (take l.number-index l.numbers) l.keep
