use Rattle.std.proofs.Common.{◌≡◌, ◌∙◌, ◌++◌, true, false, sym, ap, refl}
use Rattle.task_graph.specs.Ids.{has}
use Rattle.task_graph.proofs.Fronts.{row_found, row_put}
use Rattle.task_graph.proofs.reached.visit.Goals as goal

pub returns-then-contains_key-clause-visits : goal.returns-then-contains_key-clause-visits
returns-then-contains_key-clause-visits c ids are =
    let known : has ids c.args.task ≡ true = sym (row_found c.args.packages.now c.args.config.now ids c.args.front.now.rows.entries c.args.task are) ∙ (sym c.contains_key.ensures ∙ c.if-contains_key.true) in
    (rw known are, rw known refl)

pub returns-clause-visits : goal.returns-clause-visits
returns-clause-visits c ids are =
    let space = c.args.packages.now in
    let config = c.args.config.now in
    let task = c.args.task in
    let known : has ids task ≡ false = sym (row_found space config ids c.args.front.now.rows.entries task are) ∙ (sym c.contains_key.ensures ∙ c.if-contains_key.false) in (
      rw (known, c.in_ok-insert.ensures.entries, c.in_ok-row.ensures.value) (row_put space config ids c.args.front.now.rows.entries task are),
      rw known (c.in_ok-add_waiting.ensures.added ∙ ap (λ ts. c.args.front.now.waiting.items ++ ts) (c.as_slice.ensures ∙ ap (λ r. r.deps) c.in_ok-row.ensures.value)),
    )
