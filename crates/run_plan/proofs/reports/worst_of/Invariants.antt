use Rattle.std.proofs.Common.{◌≡◌}
use Rattle.run_plan.specs.Reports.{report_in, worst_by}
use Rattle.run_plan.proofs.reports.worst_of.Given as goal

abbrev pub invariant-loop-report : goal.invariant-loop-report
invariant-loop-report l = l.worst ≡ worst_by (report_in l.table) l.report-index
