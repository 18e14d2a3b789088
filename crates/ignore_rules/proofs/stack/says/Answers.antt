use Rattle.std.proofs.Common.{sym, ◌∙◌}
use Rattle.ignore_rules.proofs.Says.{says_taken, says_passed}
use Rattle.ignore_rules.proofs.stack.says.Goals as goal

pub returns-then-takes : goal.returns-then-takes
returns-then-takes c =
    let cut = c.in-Some.ensures.cases.0 in
    let taken = says_taken c.args.is_folder c.args.below.now c.in-Some.before.now c.in-Some.rule.now (sym c.takes.ensures ∙ c.if-takes.true) in
    sym taken ∙ sym (rw cut at c.loop-rule.invariant)

pub loop-rule-preserved : goal.loop-rule-preserved
loop-rule-preserved c =
    let cut = c.in-Some.ensures.cases.0 in
    let passed = says_passed c.args.is_folder c.args.below.now c.in-Some.before.now c.in-Some.rule.now (sym c.takes.ensures ∙ c.if-takes.false) in
    (rw cut at c.loop-rule.invariant) ∙ passed
