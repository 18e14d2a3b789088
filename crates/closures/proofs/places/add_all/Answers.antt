use Rattle.std.specs.BTreeSet.{contains}
use Rattle.std.specs.Ordering.{nat_cmp}
use Rattle.closures.proofs.Sets.{one_place_more}
use Rattle.closures.proofs.places.add_all.Goals as goal

pub loop-place-preserved : goal.loop-place-preserved
loop-place-preserved c = λ j.
    let updates = c.in_ok-insert.ensures.updates in
    one_place_more c.args.places.now c.loop-place.place-index j (contains nat_cmp c.loop-place.set j) (contains nat_cmp c.insert.new.self j) (contains nat_cmp c.args.set.now j)
    c.loop-place-test.true (updates.0 j) (c.loop-place.invariant j)
