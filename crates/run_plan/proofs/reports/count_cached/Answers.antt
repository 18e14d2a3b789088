use Rattle.std.proofs.Common.{sym, ◌∙◌, ap}
use Rattle.std.proofs.lemmas.Bool.{true≢false}
use Rattle.run_plan.specs.Reports.{report_in, was_cached}
use Rattle.run_plan.proofs.ReportFacts.{report-at, count-step}
use Rattle.run_plan.proofs.reports.count_cached.Goals as goal
use Rattle.run_plan.proofs.reports.count_cached.Goals.{then-was_cached, else-was_cached}

pub loop-report-preserved : goal.loop-report-preserved
loop-report-preserved c =
    let here = report-at c.args.table.now c.loop-report.report-index c.report-item.result c.loop-report-test.true c.report-item.is in
    count-step (λ t. was_cached (report_in c.args.table.now t)) c.loop-report.report-index c.loop-report.count c.if-was_cached.count c.loop-report.invariant.0 c.loop-report.invariant.1
    (λ h. elim c.if-was_cached.branch [ then-was_cached w ↦ w.count-is | else-was_cached w ↦ absurd (true≢false (sym h ∙ ap was_cached here ∙ sym c.was_cached.ensures ∙ w.if-was_cached.false)) ])
    (λ h. elim c.if-was_cached.branch [ then-was_cached w ↦ absurd (true≢false (sym w.if-was_cached.true ∙ c.was_cached.ensures ∙ ap was_cached (sym here) ∙ h)) | else-was_cached w ↦ w.count-is ])
