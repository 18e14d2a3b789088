use Rattle.std.proofs.Common.{◌∙◌, ◌++◌, ◌∷◌, [], length, get_or, ap, arith}
use Rattle.planner.proofs.Wanting.{wanted_more, wanted_whole}
use Rattle.planner.proofs.wanted.wanted_of.Goals as goal

pub loop-place-preserved : goal.loop-place-preserved
loop-place-preserved c =
    let place = c.loop-place.place in
    c.in_ok-push.ensures.items
    ∙ (ap (λ items. items ++ c.in_ok-wanted_at.field-0 ∷ []) c.loop-place.invariant
    ∙ wanted_more c.args.entries.now.keys c.args.args.now c.args.list.now c.requires place c.id-item.result c.index-deps-place.result c.in_ok-wanted_at.field-0 (omega (arith, c.loop-place-test.true, ap (λ xs. length xs) c.as_slice-id-items.ensures))
    (c.id-item.is ∙ ap (λ xs. get_or xs place c.id-item.result) c.as_slice-id-items.ensures) (c.index-deps-place.is ∙ ap (λ xs. get_or xs place c.index-deps-place.result) c.as_slice-deps.ensures) c.in_ok-wanted_at.ensures.value)

pub returns : goal.returns
returns c = record {
  value = c.loop-place.invariant ∙ wanted_whole c.args.entries.now.keys c.args.args.now c.args.list.now c.requires c.loop-place.place (omega (arith, c.loop-place-test.false, ap (λ xs. length xs) c.as_slice-id-items.ensures));
}
