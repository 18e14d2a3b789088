use Rattle.std.proofs.Common.{ap, length}
use Rattle.filters.proofs.Taking.{included_all, included_some}
use Rattle.filters.proofs.selection.included_marks.Goals as goal

pub returns-in_ok-vec-clause-marks : goal.returns-in_ok-vec-clause-marks
returns-in_ok-vec-clause-marks c = included_all c.args.included.items c.in_ok-vec.field-0.items c.args.all (length c.as_slice-count.result.now) c.if-all.true (ap length c.as_slice-count.ensures.value) (c.in_ok-vec.ensures.items_if_clones_equal (λ y e. e))

pub returns-else-all-clause-marks : goal.returns-else-all-clause-marks
returns-else-all-clause-marks c = included_some c.args.included.items c.args.all c.if-all.false
