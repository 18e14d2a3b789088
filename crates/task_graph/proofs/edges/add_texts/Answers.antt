use Rattle.std.proofs.Common.{◌≡◌, ◌++◌, ◌∷◌, ◌+◌, true, false, not, drop, sym, ap, ◌∙◌, append_assoc}
use Rattle.std.specs.Prelude.{is_some}
use Rattle.task_graph.specs.Edges.{tasks_of, text_tasks, is_refused}
use Rattle.task_graph.proofs.Loops.{turn}
use Rattle.task_graph.proofs.TaskLists.{first_found, found_before, not_found}
use Rattle.task_graph.proofs.edges.add_texts.Goals as goal
use Rattle.task_graph.proofs.edges.add_texts.Goals.{then-branch+then-is_none+in_ok-copy, else-branch, else-branch-via-then-branch+else-is_none, else-branch-via-else-branch}

pub loop-text-preserved : goal.loop-text-preserved
loop-text-preserved c =
    let space = c.args.packages.now in
    let config = c.args.config.now in
    let id = c.args.id.now in
    let texts = c.args.texts.now in
    let i = c.loop-text.text-index in
    let text = c.text-item.result in
    let old = c.loop-text.refused in
    let next : drop i texts ≡ text ∷ drop (i + 1) texts = turn texts i text (c.loop-text-test.true, c.text-item.is) in
    record {
      added = rw c.in_ok-add_text.ensures.added (append_assoc c.loop-text.tasks.items (text_tasks space config id text) (tasks_of space config id (drop (i + 1) texts)) ∙ (ap (λ ts. c.loop-text.tasks.items ++ tasks_of space config id ts) (sym next) ∙ c.loop-text.invariant.added));
      refused = elim c.if-branch.branch [
        | then-branch+then-is_none+in_ok-copy w ↦
            let is : is_refused space config id text ≡ true = sym c.in_ok-add_text.ensures.refused ∙ w.if-branch.true in
            let none : is_some old ≡ false = w.is_none.ensures ∙ ap not w.if-is_none.true in
            rw (w.refused-is, w.in_ok-copy.ensures.value) (first_found (is_refused space config id) texts i text old next none is ∙ c.loop-text.invariant.refused)
        | else-branch w ↦ elim w.else-branch.branch [
          | else-branch-via-then-branch+else-is_none w' ↦
              let some : is_some old ≡ true = w'.is_none.ensures ∙ ap not w'.if-is_none.false in
              rw w.refused-is (found_before (is_refused space config id) texts i text old next some ∙ c.loop-text.invariant.refused)
          | else-branch-via-else-branch w' ↦
              let is : is_refused space config id text ≡ false = sym c.in_ok-add_text.ensures.refused ∙ w'.if-branch.false in
              rw w.refused-is (not_found (is_refused space config id) texts i text old next is ∙ c.loop-text.invariant.refused)
        ]
      ];
    }
