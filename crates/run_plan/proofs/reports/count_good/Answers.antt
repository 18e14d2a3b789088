use Rattle.std.proofs.Common.{sym, ◌∙◌, ap}
use Rattle.std.proofs.lemmas.Bool.{true≢false}
use Rattle.run_plan.specs.Reports.{report_in, succeeded}
use Rattle.run_plan.proofs.ReportFacts.{report-at, count-step}
use Rattle.run_plan.proofs.reports.count_good.Goals as goal
use Rattle.run_plan.proofs.reports.count_good.Goals.{then-succeeded, else-succeeded}

pub loop-report-preserved : goal.loop-report-preserved
loop-report-preserved c =
    let here = report-at c.args.table.now c.loop-report.report-index c.report-item.result c.loop-report-test.true c.report-item.is in
    count-step (λ t. succeeded (report_in c.args.table.now t)) c.loop-report.report-index c.loop-report.count c.if-succeeded.count c.loop-report.invariant.0 c.loop-report.invariant.1
    (λ h. elim c.if-succeeded.branch [ then-succeeded w ↦ w.count-is | else-succeeded w ↦ absurd (true≢false (sym h ∙ ap succeeded here ∙ sym c.succeeded.ensures ∙ w.if-succeeded.false)) ])
    (λ h. elim c.if-succeeded.branch [ then-succeeded w ↦ absurd (true≢false (sym w.if-succeeded.true ∙ c.succeeded.ensures ∙ ap succeeded (sym here) ∙ h)) | else-succeeded w ↦ w.count-is ])
