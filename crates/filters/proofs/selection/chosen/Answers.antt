use Rattle.std.proofs.Common.{◌≡◌, ◌∙◌, sym, ap, subst, length}
use Rattle.std.specs.List.Sorted.{IsStrictlySortedBy}
use Rattle.std.specs.Ordering.{nat_cmp}
use Rattle.std.proofs.lemmas.List.{with_items_is}
use Rattle.workspaces.specs.Lists.{places}
use Rattle.workspaces.specs.Marks.{itself}
use Rattle.workspaces.specs.Reach.{AreBelow}
use Rattle.filters.proofs.Places.{below_places}
use Rattle.workspaces.proofs.Lists.{sorted-places}
use Rattle.filters.proofs.Taking.{chosen_by}
use Rattle.filters.proofs.selection.chosen.Goals as goal

pub mark-requires : goal.mark-requires
mark-requires c =
    let excluded = c.args.sides.excluded.items in
    let same : length excluded ≡ length c.as_mut_slice.result.now = c.requires.same ∙ (sym c.in_ok-marks.ensures.same ∙ sym (ap length c.as_mut_slice.ensures.value)) in
    let out : c.as_slice-2.result.now ≡ places itself excluded = c.as_slice-2.ensures ∙ (c.in_ok-excluded.ensures.value ∙ ap (λ ms. places itself ms) c.as_slice.ensures.value) in
    subst (λ ps. AreBelow (length c.as_mut_slice.result.now) ps) (sym out) (subst (λ n. AreBelow n (places itself excluded)) same (below_places itself excluded))

pub returns-clause-ascend : goal.returns-clause-ascend
returns-clause-ascend c = subst (IsStrictlySortedBy nat_cmp) (sym c.in_ok-marked.ensures.value) (sorted-places itself c.as_slice-3.result.now)

pub returns-clause-chosen : goal.returns-clause-chosen
returns-clause-chosen c =
    let excluded = c.args.sides.excluded.items in
    let out : c.as_slice-2.result.now ≡ places itself excluded = c.as_slice-2.ensures ∙ (c.in_ok-excluded.ensures.value ∙ ap (λ ms. places itself ms) c.as_slice.ensures.value) in
    let slice : c.as_slice-3.result.now ≡ c.mark.new.marks = c.as_slice-3.ensures.value ∙ with_items_is c.in_ok-marks.marks c.mark.new.marks (c.mark.ensures.same ∙ c.as_mut_slice.ensures.len) in
    chosen_by c.args.sides c.as_slice-2.result.now c.in_ok-marked.field-0 c.as_mut_slice.result.now c.mark.new.marks out (rw c.as_mut_slice.ensures.value c.in_ok-marks.ensures.marks) c.mark.ensures.marks (c.in_ok-marked.ensures.value ∙ ap (λ ms. places itself ms) slice)
