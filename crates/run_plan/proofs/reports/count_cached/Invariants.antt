use Rattle.std.proofs.Common.{◌≡◌, ◌≤◌}
use Rattle.run_core.specs.Greedy.{count_below}
use Rattle.run_plan.specs.Reports.{report_in, was_cached}
use Rattle.run_plan.proofs.reports.count_cached.Given as goal

abbrev pub invariant-loop-report : goal.invariant-loop-report
invariant-loop-report l = (l.count ≡ count_below (λ t. was_cached (report_in l.table t)) l.report-index) × (l.count ≤ l.report-index)
