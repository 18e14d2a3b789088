use Rattle.std.proofs.Common.{◌≡◌, ◌++◌, ◌∷◌, ◌+◌, [], arith, take, get_or}
use Rattle.std.proofs.lemmas.List.{take_more}
use Rattle.workspaces.proofs.Marking.{below_at}
use Rattle.filters.proofs.Marking.{mark_more}
use Rattle.filters.proofs.marks.mark.Goals as goal

pub loop-place-preserved : goal.loop-place-preserved
loop-place-preserved c =
    let ps = c.args.places.now in
    let i = c.loop-place.place-index in
    let at = get_or ps i 0 in
    let next : take (i + 1) ps ≡ take i ps ++ at ∷ [] = take_more ps i 0 c.loop-place-test.true in
    let low = below_at _ ps c.requires i 0 c.loop-place-test.true in
    record { marks = rw next (mark_more (take i ps) at c.args.value _ _ c.loop-place.invariant.marks (omega (arith, low))) }
