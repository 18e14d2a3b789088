use Rattle.serde_json.specs.View.{members_view}
use Rattle.npm_lock.specs.Cut.{is_in, cut_entry}
use Rattle.npm_lock.proofs.Picked.{Going}
use Rattle.npm_lock.proofs.cut.cut_packages.Given as goal

abbrev pub invariant-loop-location : goal.invariant-loop-location
invariant-loop-location l = Going (cut_entry (is_in l.folders) (is_in l.locations)) l.packages.entries l.location-iterator (members_view l.cut.entries)
