use Rattle.std.proofs.Common.{◌≡◌, ◌||◌, ℕ, take}
use Rattle.std.specs.BTreeSet.{contains}
use Rattle.std.specs.Ordering.{nat_cmp}
use Rattle.closures.specs.Places.{has}
use Rattle.closures.proofs.places.add_all.Given as goal

abbrev pub invariant-loop-place : goal.invariant-loop-place
invariant-loop-place l = (j : ℕ) → contains nat_cmp l.set j ≡ (has (take l.place-index l.places) j || contains nat_cmp l.initial.set j)
