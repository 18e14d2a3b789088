use Rattle.std.proofs.Common.{arith}
use Rattle.filters.proofs.selection.selected_by.Goals as goal

pub chosen-requires-clause-few : goal.chosen-requires-clause-few
chosen-requires-clause-few c = omega (arith, c.in_ok-sides.ensures.value.included_same, c.in_ok-sides.ensures.few)
