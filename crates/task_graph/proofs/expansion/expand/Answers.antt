use Rattle.std.proofs.Common.{◌≡◌, ◌∙◌, inl, inr, sym, ap, arith, Ok, Err}
use Rattle.std.proofs.lemmas.Result.{err_from_is_err_and}
use Rattle.task_graph.specs.Entries.{entry_tasks}
use Rattle.task_graph.proofs.Noded.{nodes_are, means_is, nodes_whole}
use Rattle.task_graph.proofs.expansion.expand.Goals as goal

pub returns-in_err-nodes : goal.returns-in_err-nodes
returns-in_err-nodes c =
    let space = c.args.packages.now in
    let config = c.args.config.now in
    let selected = c.args.selected.now in
    let all = c.args.all in
    let words = c.args.words.now in
    let starts = c.as_slice.result.now in
    let named : entry_tasks space config selected all words ≡ Ok starts = c.in_ok-entries.ensures ∙ ap Ok (sym c.as_slice.ensures.value) in
    let found = c.in_ok-rows.ensures.reached in
    let p = err_from_is_err_and c.from_residual-in_err-nodes.result c.from_residual-in_err-nodes.ensures.1 in
    rw (p.1, p.2) (elim c.in_err-nodes.ensures [
      | inl memory ↦ inl memory
      | inr is ↦ inr (means_is space config selected all words starts found.0 c.in_ok-rows.rows.items (Err c.in_err-nodes.field-0.0) named found.1 found.2 is)
    ])

pub new-graph-requires : goal.new-graph-requires
new-graph-requires c =
    let space = c.args.packages.now in
    let config = c.args.config.now in
    let found = c.in_ok-rows.ensures.reached in
    nodes_whole space config c.as_slice.result.now found.0 c.in_ok-nodes.nodes.items found.1 (sym (nodes_are space config found.0 c.in_ok-rows.rows.items found.2) ∙ c.in_ok-nodes.ensures) (omega arith)

pub returns : goal.returns
returns c =
    let space = c.args.packages.now in
    let config = c.args.config.now in
    let selected = c.args.selected.now in
    let all = c.args.all in
    let words = c.args.words.now in
    let starts = c.as_slice.result.now in
    let named : entry_tasks space config selected all words ≡ Ok starts = c.in_ok-entries.ensures ∙ ap Ok (sym c.as_slice.ensures.value) in
    let found = c.in_ok-rows.ensures.reached in
    (c.in_ok-entries.ensures, means_is space config selected all words starts found.0 c.in_ok-rows.rows.items (Ok c.new-graph.result) named found.1 found.2 (c.in_ok-nodes.ensures ∙ ap Ok (sym c.new-graph.ensures)))
