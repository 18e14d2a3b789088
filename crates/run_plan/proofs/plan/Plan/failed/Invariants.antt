use Rattle.std.proofs.Common.{◌≡◌}
use Rattle.run_plan.specs.Reports.{report_in, failed_by}
use Rattle.run_plan.proofs.plan.Plan.failed.Given as goal

abbrev pub invariant-loop-place : goal.invariant-loop-place
invariant-loop-place l = l.tasks ≡ failed_by l.self (report_in l.reports) l.place
