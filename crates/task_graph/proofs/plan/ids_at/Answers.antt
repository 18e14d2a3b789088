use Rattle.std.proofs.Common.{◌≡◌, ◌+◌, ◌++◌, ◌∷◌, [], take, get_or, length, sym, refl, ◌∙◌}
use Rattle.std.proofs.lemmas.List.{take_more}
use Rattle.task_graph.specs.Rows.{id_at}
use Rattle.workspaces.proofs.Marking.{below_at}
use Rattle.task_graph.proofs.Placed.{id-get, map-more}
use Rattle.task_graph.proofs.plan.ids_at.Goals as goal

pub loop-number-preserved : goal.loop-number-preserved
loop-number-preserved c =
    let nodes = c.args.nodes.now in
    let numbers = c.args.numbers.now in
    let i = c.loop-number.number-index in
    let at = get_or numbers i 0 in
    let next : take (i + 1) numbers ≡ take i numbers ++ at ∷ [] = take_more numbers i 0 c.loop-number-test.true in
    let node = c.index-nodes-number.result in
    let id : c.in_ok-copied.field-0 ≡ id_at nodes at = c.in_ok-copied.ensures.value ∙ sym (id-get nodes at node (below_at (length nodes) numbers c.requires i 0 c.loop-number-test.true)) in
    rw (c.in_ok-push.ensures.pushed, next, map-more (id_at nodes) (take i numbers) at, id, c.loop-number.invariant) refl
