use Rattle.std.proofs.Common.{◌≡◌, ◌∙◌, sym, ap, subst, false, not, length}
use Rattle.std.specs.Prelude.{replicate}
use Rattle.std.proofs.lemmas.List.{length-replicate, with_items_is}
use Rattle.workspaces.specs.Marks.{itself}
use Rattle.workspaces.specs.Reach.{AreBelow}
use Rattle.workspaces.proofs.Marking.{none_marked}
use Rattle.filters.proofs.Places.{below_places}
use Rattle.filters.proofs.Taking.{takes_by, marked_places}
use Rattle.filters.proofs.taken.taken.Goals as goal

pub mark_taken-requires-clause-none : goal.mark_taken-requires-clause-none
mark_taken-requires-clause-none c =
    let vec : c.in_ok-marks.marks.items ≡ replicate c.count.result false = c.in_ok-marks.ensures.items_if_clones_equal (λ y e. e) in
    λ p. rw (c.as_mut_slice.ensures.value, vec) (none_marked c.count.result p)

pub returns-clause-takes : goal.returns-clause-takes
returns-clause-takes c =
    let slice : c.as_slice.result.now ≡ c.mark_taken.new.marks = c.as_slice.ensures.value ∙ with_items_is c.in_ok-marks.marks c.mark_taken.new.marks (c.mark_taken.ensures.same ∙ c.as_mut_slice.ensures.len) in
    let found = c.in_ok-marked.field-0 in
    takes_by c.args.packages.now.packages c.args.filter.now c.in_ok-neighbours.neighbours (not c.leaves_core.result) found c.in_ok-neighbours.ensures.value (ap not c.leaves_core.ensures) (λ p. marked_places c.as_slice.result.now found c.in_ok-marked.ensures.value p ∙ rw slice (c.mark_taken.ensures.marks p))

pub returns-clause-below : goal.returns-clause-below
returns-clause-below c =
    let slice : c.as_slice.result.now ≡ c.mark_taken.new.marks = c.as_slice.ensures.value ∙ with_items_is c.in_ok-marks.marks c.mark_taken.new.marks (c.mark_taken.ensures.same ∙ c.as_mut_slice.ensures.len) in
    let vec : c.in_ok-marks.marks.items ≡ replicate c.count.result false = c.in_ok-marks.ensures.items_if_clones_equal (λ y e. e) in
    let same : length c.as_slice.result.now ≡ length c.args.packages.now.packages = ap length slice ∙ (c.mark_taken.ensures.same ∙ (ap length (c.as_mut_slice.ensures.value ∙ vec) ∙ (length-replicate c.count.result false ∙ c.count.ensures.value))) in
    subst (λ n. AreBelow n c.in_ok-marked.field-0) same (subst (λ ps. AreBelow (length c.as_slice.result.now) ps) (sym c.in_ok-marked.ensures.value) (below_places itself c.as_slice.result.now))
