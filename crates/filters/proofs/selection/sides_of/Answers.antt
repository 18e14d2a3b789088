use Rattle.std.proofs.Common.{◌≡◌, ◌∙◌, ◌++◌, ◌∷◌, ◌+◌, [], sym, ap, refl, false, take}
use Rattle.std.specs.Prelude.{replicate}
use Rattle.std.proofs.lemmas.List.{take_more}
use Rattle.filters.proofs.Taking.{no_sides, sides_more}
use Rattle.filters.proofs.selection.sides_of.Goals as goal

pub loop-filter-init : goal.loop-filter-init
loop-filter-init c =
    let included : c.in_ok-vec.field-0.items ≡ replicate c.count-count.result false = c.in_ok-vec.ensures.items_if_clones_equal (λ y e. e) in
    let excluded : c.in_ok-vec-2.field-0.items ≡ replicate c.count-count.result false = c.in_ok-vec-2.ensures.items_if_clones_equal (λ y e. e) in
    no_sides c.args.packages.now.packages _ (included ∙ ap (λ n. replicate n false) c.count-count.ensures.value) (excluded ∙ ap (λ n. replicate n false) c.count-count.ensures.value) refl

pub loop-filter-preserved : goal.loop-filter-preserved
loop-filter-preserved c =
    let filters = c.args.filters.now in
    let i = c.loop-filter.filter-index in
    let next : take (i + 1) filters ≡ take i filters ++ c.filter-item.result ∷ [] = take_more filters i c.filter-item.result c.loop-filter-test.true ∙ ap (λ f. take i filters ++ f ∷ []) (sym c.filter-item.is) in
    let adds = rw c.as_slice.ensures at c.add.ensures in
    rw next (sides_more c.args.packages.now.packages (take i filters) c.filter-item.result c.in_ok-taken.taken _ _ c.loop-filter.invariant c.in_ok-taken.ensures.takes adds)
