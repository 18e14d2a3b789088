use Rattle.std.proofs.Common.{◌≡◌, ◌≤◌}
use Rattle.run_core.specs.Greedy.{count_below}
use Rattle.run_plan.specs.Reports.{report_in, succeeded}
use Rattle.run_plan.proofs.reports.count_good.Given as goal

abbrev pub invariant-loop-report : goal.invariant-loop-report
invariant-loop-report l = (l.count ≡ count_below (λ t. succeeded (report_in l.table t)) l.report-index) × (l.count ≤ l.report-index)
