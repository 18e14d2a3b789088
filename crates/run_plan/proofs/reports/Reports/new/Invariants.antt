use Rattle.std.proofs.Common.{◌≡◌, replicate, None}
use Rattle.run_plan.proofs.reports.Reports.new.Given as goal

abbrev pub invariant-loop : goal.invariant-loop
invariant-loop l = l.items.items ≡ replicate l.counter None
