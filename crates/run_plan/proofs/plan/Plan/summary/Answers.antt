use Rattle.std.proofs.Common.{◌∙◌, ap}
use Rattle.run_plan.specs.Reports.{report_in, succeeded, was_cached, summary_by}
use Rattle.run_core.specs.Greedy.{count_below}
use Rattle.page.specs.Summaries.{summary_text}
use Rattle.run_plan.proofs.plan.Plan.summary.Goals as goal

pub returns-clause-text : goal.returns-clause-text
unfolding summary_by
returns-clause-text c =
    let good = c.good.ensures ∙ ap (count_below (λ t. succeeded (report_in c.args.reports.now t))) c.requires.size in
    let cached = c.cached.ensures ∙ ap (count_below (λ t. was_cached (report_in c.args.reports.now t))) c.requires.size in
    c.in_ok-summary.ensures.text ∙ (λ i. summary_text (good i) (cached i) (c.script_count-total.ensures i) (c.in_ok-failed.ensures.tasks i))
