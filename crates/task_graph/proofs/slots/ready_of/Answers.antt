use Rattle.std.proofs.Common.{◌≡◌, ◌==◌, ℕ, [], true, false, length, ap, sym, ◌∙◌}
use Rattle.std.specs.List.{list_all}
use Rattle.std.specs.Ordering.{nat_cmp}
use Rattle.std.specs.BTreeSet.{contains}
use Rattle.workspaces.specs.Reach.{is_in, row_at}
use Rattle.workspaces.proofs.Marking.{row-get}
use Rattle.task_graph.proofs.Counted.{ready_more, ready_same, all_of_none, none_of_some}
use Rattle.task_graph.proofs.slots.ready_of.Goals as goal
use Rattle.task_graph.proofs.slots.ready_of.Goals.{then-is_empty+in_ok-insert, else-is_empty}

pub loop-task-preserved : goal.loop-task-preserved
loop-task-preserved c n =
    let rows = c.args.rows.now in
    let i = c.loop-task.task in
    let test = λ (m : ℕ). list_all (is_in []) (row_at rows m) in
    let row : c.as_slice.result.now ≡ row_at rows i = c.as_slice.ensures ∙ (c.index-rows-task.is ∙ sym (row-get rows i c.index-rows-task.result c.loop-task-test.true)) in
    elim c.if-is_empty.branch [
      | then-is_empty+in_ok-insert w ↦
          let is : test i ≡ true = all_of_none (row_at rows i) (ap (λ ns. length ns == 0) (sym row) ∙ (sym c.is_empty.ensures ∙ w.if-is_empty.true)) in
          rw w.ready-is (w.in_ok-insert.ensures.updates.0 n ∙ ready_more test n i (contains nat_cmp c.loop-task.ready n) (c.loop-task.invariant n) is)
      | else-is_empty w ↦
          let is : test i ≡ false = none_of_some (row_at rows i) (ap (λ ns. length ns == 0) (sym row) ∙ (sym c.is_empty.ensures ∙ w.if-is_empty.false)) in
          rw w.ready-is (ready_same test n i (contains nat_cmp c.loop-task.ready n) (c.loop-task.invariant n) is)
    ]
