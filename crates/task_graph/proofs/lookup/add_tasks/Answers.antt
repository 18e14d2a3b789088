use Rattle.std.proofs.Common.{◌≡◌, ◌<◌, true, false, length, get_or, sym, subst, ◌∙◌}
use Rattle.workspaces.specs.Space.{owners}
use Rattle.workspaces.specs.Steps.{name_at}
use Rattle.task_graph.specs.Ids.{task_id}
use Rattle.task_graph.specs.Tasks.{has_def}
use Rattle.workspaces.proofs.Marking.{below_at}
use Rattle.task_graph.proofs.Named.{held_name}
use Rattle.task_graph.proofs.TaskLists.{tasks_added, tasks_passed}
use Rattle.task_graph.proofs.lookup.add_tasks.Goals as goal
use Rattle.task_graph.proofs.lookup.add_tasks.Goals.{then-branch+in_ok-push, else-branch}

pub loop-owner-preserved : goal.loop-owner-preserved
loop-owner-preserved c =
    let ps = owners c.args.packages.now in
    let config = c.args.config.now in
    let places = c.args.places.now in
    let name = c.args.name.now in
    let i = c.loop-owner.owner-index in
    let at = get_or places i 0 in
    let tasks = c.loop-owner.tasks.items in
    let less : at < length ps = below_at (length ps) places c.requires i 0 c.loop-owner-test.true in
    let pkg : c.in_ok-package.package ≡ name_at ps at = c.in_ok-package.ensures.value ∙ held_name ps at c.name.result.now less c.name.ensures in
    let made : record { «package» = c.in_ok-package.package; task = c.in_ok-task.task } ≡ task_id (name_at ps at) name = λ j. record { «package» = pkg j; task = c.in_ok-task.ensures.value j } in
    elim c.if-branch.branch [
      | then-branch+in_ok-push w ↦
          let is : has_def config (task_id (name_at ps at) name) ≡ true = subst (λ x. has_def config x ≡ true) made (sym c.in_ok-has_def.ensures.value ∙ w.if-branch.true) in
          rw (w.tasks-is, w.in_ok-push.ensures.items, made) (tasks_added ps config places name tasks i c.loop-owner-test.true is ∙ c.loop-owner.invariant)
      | else-branch w ↦
          let is : has_def config (task_id (name_at ps at) name) ≡ false = subst (λ x. has_def config x ≡ false) made (sym c.in_ok-has_def.ensures.value ∙ w.if-branch.false) in
          rw w.tasks-is (tasks_passed ps config places name tasks i c.loop-owner-test.true is ∙ c.loop-owner.invariant)
    ]
