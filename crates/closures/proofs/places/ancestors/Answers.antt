use Rattle.std.proofs.Common.{◌≡◌, ◌<◌, ◌||◌, ◌∙◌, ℕ, List, length, subst, arith}
use Rattle.std.specs.Prelude.{IfOk}
use Rattle.std.specs.BTreeSet.{contains}
use Rattle.std.specs.Ordering.{nat_cmp}
use Rattle.closures.specs.Places.{has}
use Rattle.closures.proofs.Descent.{followed, all_found, deps_at}
use Rattle.closures.proofs.places.ancestors.Goals as goal

pub loop-next-preserved : goal.loop-next-preserved
loop-next-preserved c =
    let l = c.args.listing.now in
    let next = c.in-Some.next in
    let old = contains nat_cmp c.loop-next.kept in
    let new = contains nat_cmp c.add_all.new.set in
    let last = c.in-Some.ensures in
    let lt : next < length l.parts = omega (arith, last.0, c.loop-next.invariant.small, c.requires.place) in
    let deps = c.as_slice.ensures ∙ deps_at l c.as_slice-parts.result.now next c.index-parts-next.result c.as_slice-parts.ensures lt in
    record {
      small = omega (arith, last.0, c.loop-next.invariant.small);
      found = followed l c.args.place c.loop-next.at next old new c.requires.lower c.loop-next.invariant.found last
          (subst (λ (ds : List ℕ). (j : ℕ) → new j ≡ (has ds j || old j)) deps c.in_ok-add_all.ensures.added);
    }

pub returns-clause-kept : goal.returns-clause-kept
returns-clause-kept c =
    subst (λ passes. IfOk c.in_order.result (λ places. has places.items ≡ passes))
    (all_found c.args.listing.now c.args.place c.loop-next.at (contains nat_cmp c.loop-next.kept) c.loop-next.invariant.found c.in_default.ensures)
    c.in_order.ensures.same
