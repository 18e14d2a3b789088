use Rattle.std.proofs.Common.{◌≡◌, ◌∙◌, ◌<◌, true, false, sym, ap, subst, arith, length}
use Rattle.std.specs.Prelude.{replicate, Some, find}
use Rattle.std.proofs.lemmas.List.{length-replicate}
use Rattle.workspaces.specs.Marks.{is_marked}
use Rattle.workspaces.specs.Reach.{row_at}
use Rattle.task_graph.specs.Sorting.{is_left}
use Rattle.task_graph.specs.Ways.{Circles, AreOnce, from_first}
use Rattle.workspaces.proofs.Marking.{none_marked, marked-get, row-get, unmarked-set}
use Rattle.task_graph.proofs.Walking.{OnWay, Goes, starts, on_way_more, comes_back, left_within}
use Rattle.task_graph.proofs.cycle.cycle.Goals as goal

pub loop-next-init : goal.loop-next-init
loop-next-init c =
    let rows = c.args.rows.now in
    let left = is_left c.args.slots.now in
    let vec : c.in_ok-seen.seen.items ≡ replicate (length rows) false = c.in_ok-seen.ensures.items_if_clones_equal (λ y e. e) in
    record {
      same = ap length vec ∙ length-replicate (length rows) false;
      marks = λ q. rw (vec, c.new-path.ensures.items) (none_marked (length rows) q);
      once = subst AreOnce (sym c.new-path.ensures.items) tt;
      goes = subst (λ p. Goes rows left p c.first_left-next.result) (sym c.new-path.ensures.items) (starts rows left c.first_left-next.result c.first_left-next.ensures);
    }

pub returns-then-index-clause-cycle : goal.returns-then-index-clause-cycle
returns-then-index-clause-cycle c =
    let rows = c.args.rows.now in
    let slots = c.args.slots.now in
    let left = is_left slots in
    let task = c.in-Some.task in
    let inv = c.loop-next.invariant in
    let path = c.loop-next.path.items in
    let seen = c.loop-next.seen.items in
    let on : OnWay rows left path seen (Some task) = subst (λ n. OnWay rows left path seen n) c.in-Some.is inv in
    let less : task < length seen = omega (arith, left_within slots task on.goes.0, c.requires.same, inv.same) in
    let again : is_marked seen task ≡ true = marked-get seen task c.index.result.now less ∙ (sym c.index.ensures ∙ c.if-index.true) in
    subst (Circles rows left) (sym (c.in_ok-copied_places.ensures.value ∙ (c.from_first.ensures ∙ ap (from_first task) c.as_slice.ensures.value))) (comes_back rows left path seen task on again)

pub loop-next-smaller : goal.loop-next-smaller
loop-next-smaller c =
    let slots = c.args.slots.now in
    let left = is_left slots in
    let task = c.in-Some.task in
    let inv = c.loop-next.invariant in
    let path = c.loop-next.path.items in
    let seen = c.loop-next.seen.items in
    let on : OnWay c.args.rows.now left path seen (Some task) = subst (λ n. OnWay c.args.rows.now left path seen n) c.in-Some.is inv in
    let less : task < length seen = omega (arith, left_within slots task on.goes.0, c.requires.same, inv.same) in
    let fresh : is_marked seen task ≡ false = marked-get seen task c.index.result.now less ∙ (sym c.index.ensures ∙ c.if-index.false) in
    omega (arith, unmarked-set seen task less fresh)

pub loop-next-preserved : goal.loop-next-preserved
loop-next-preserved c =
    let rows = c.args.rows.now in
    let slots = c.args.slots.now in
    let left = is_left slots in
    let task = c.in-Some.task in
    let inv = c.loop-next.invariant in
    let path = c.loop-next.path.items in
    let seen = c.loop-next.seen.items in
    let on : OnWay rows left path seen (Some task) = subst (λ n. OnWay rows left path seen n) c.in-Some.is inv in
    let within : task < length rows = omega (arith, left_within slots task on.goes.0, c.requires.same) in
    let less : task < length seen = omega (arith, within, inv.same) in
    let fresh : is_marked seen task ≡ false = marked-get seen task c.index.result.now less ∙ (sym c.index.ensures ∙ c.if-index.false) in
    let row : c.as_slice-in-Some.result.now ≡ row_at rows task = c.as_slice-in-Some.ensures ∙ (c.index-rows-task.is ∙ sym (row-get rows task c.index-rows-task.result within)) in
    rw c.in_ok-push.ensures.items (on_way_more rows left path seen task c.next_left-next.result on less fresh (c.requires.steps task on.goes.0) (c.next_left-next.ensures ∙ ap (find left) row))
