use Rattle.std.proofs.Common.{◌≡◌, ◌+◌, ◌++◌, ◌∷◌, [], true, false, take, length, rules, ap, sym, subst, refl, ◌∙◌}
use Rattle.std.proofs.lemmas.Fn.{always_returns_same}
use Rattle.std.proofs.lemmas.Bool.{false≢true}
use Rattle.std.proofs.lemmas.List.{take_more}
use Rattle.task_graph.specs.declared.node.Node.{Node}
use Rattle.task_graph.specs.Ids.{id_cmp}
use Rattle.task_graph.specs.Nodes.{is_in_graph}
use Rattle.task_graph.specs.Rows.{id_at}
use Rattle.task_graph.proofs.Ids.{id_total, id_tied}
use Rattle.task_graph.proofs.Searching.{searchable, none_at, none_found}
use Rattle.task_graph.proofs.Placed.{tied_id, map-more, below-more, all-get}
use Rattle.task_graph.proofs.rows.row_of.Goals as goal
use Rattle.task_graph.proofs.rows.row_of.Goals.{in-Ok+in_ok-push, in_default}

pub loop-task-preserved : goal.loop-task-preserved
loop-task-preserved c =
    let nodes = c.args.nodes.now in
    let tasks = c.args.tasks.now in
    let i = c.loop-task.task-index in
    let task = c.task-item.result in
    let inv = c.loop-task.invariant in
    let next : take (i + 1) tasks ≡ take i tasks ++ task ∷ [] = take_more tasks i task c.loop-task-test.true ∙ ap (λ t. take i tasks ++ t ∷ []) (sym c.task-item.is) in
    let ord = λ (n : Node). id_cmp n.id task in
    elim c.match-binary_search_by.branch [
      | in-Ok+in_ok-push w ↦
          let at = w.in-Ok.place in
          let found = w.in-Ok.ensures.position ord (always_returns_same _ _ _ (λ a r g h. (search rules, search rules))) in
          let is : id_at nodes at ≡ task = tied_id nodes at task w.in-Ok.ensures.bound found in
          record {
            value = rw (w.row-is, w.in_ok-push.ensures.pushed, next, map-more (id_at nodes) c.loop-task.row at, is, inv.value) refl;
            below = rw (w.row-is, w.in_ok-push.ensures.pushed) (below-more (length nodes) c.loop-task.row at inv.below w.in-Ok.ensures.bound);
          }
      | in_default w ↦
          let parts = w.in_default.ensures.position ord (always_returns_same _ _ _ (λ a r g h. (search rules, search rules))) in
          let up = searchable (λ (n : Node). n.id) id_cmp id_total id_tied task nodes c.requires.whole.ascend in
          let none : is_in_graph nodes task ≡ false = none_found (λ (n : Node). n.id) id_cmp id_total id_tied task nodes (none_at (λ (n : Node). n.id) id_cmp id_total id_tied task nodes w.in_default.field-0 (parts up)) in
          let some : is_in_graph nodes task ≡ true = subst (λ t. is_in_graph nodes t ≡ true) (sym c.task-item.is) (all-get (λ t. is_in_graph nodes t ≡ true) tasks c.requires.inner i task c.loop-task-test.true) in
          absurd (false≢true (sym none ∙ some))
    ]
