use Rattle.std.proofs.Common.{◌≡◌, ◌≤◌, length, map}
use Rattle.npm_lock.specs.Lookup.{place_in, above_without_modules, first_number}
use Rattle.npm_lock.proofs.lookup.found_above.Given as goal

abbrev pub invariant-loop-end : goal.invariant-loop-end
invariant-loop-end l = record {
  within : l.end ≤ length l.from;
  left : first_number l.entries (map (place_in l.name) (above_without_modules l.from l.end)) ≡ first_number l.entries (map (place_in l.name) (above_without_modules l.from (length l.from)));
}

abbrev pub decreases-loop-end : goal.decreases-loop-end
decreases-loop-end l = l.end
