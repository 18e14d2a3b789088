use Rattle.std.proofs.Common.{◌≡◌, ◌++◌}
use Rattle.serde_json.specs.View.{members_view}
use Rattle.lock_entries.specs.Entries.{entries_of, wrongs_of}
use Rattle.lock_entries.specs.Least.{lesser_by, least_by}
use Rattle.lock_entries.proofs.lockfile.entries_of.Given as goal

abbrev pub invariant-loop-location : goal.invariant-loop-location
invariant-loop-location l = record {
  read : l.entries.items ++ entries_of (members_view l.location-iterator) ≡ entries_of (members_view l.packages.entries);
  least : lesser_by (λ wrong. wrong.pointer) l.least (least_by (λ wrong. wrong.pointer) (wrongs_of (members_view l.location-iterator))) ≡ least_by (λ wrong. wrong.pointer) (wrongs_of (members_view l.packages.entries));
}
