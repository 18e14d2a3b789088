use Rattle.std.proofs.Common.{◌≡◌, [], ap, sym, ◌∙◌, subst, map, take, arith}
use Rattle.std.proofs.lemmas.List.{take_all}
use Rattle.task_graph.specs.Sorting.{Fits, slot_at}
use Rattle.task_graph.proofs.Counted.{first_slot, fits_first}
use Rattle.task_graph.proofs.slots.slots_of.Goals as goal

pub returns-clause-fits : goal.returns-clause-fits
returns-clause-fits c n =
    let rows = c.args.rows.now in
    let whole : take c.loop-row.row-index rows ≡ rows = take_all c.loop-row.row-index rows (omega arith) in
    subst (λ ss. Fits rows [] n (slot_at ss n)) (sym (c.loop-row.invariant ∙ ap (map first_slot) whole)) (fits_first rows n)
