use Rattle.std.proofs.Common.{◌≡◌, ◌∙◌, sym}
use Rattle.std.proofs.lemmas.Result.{IfOk-weaker}
use Rattle.ignore_rules.specs.Rules.{rule_in, rule_of, rule_written}
use Rattle.ignore_rules.proofs.Rules.{rule_of-text, rule_of-none}
use Rattle.ignore_rules.proofs.rule.rule_of.Goals as goal

pub returns-in_ok-marks-in-Ok : goal.returns-in_ok-marks-in-Ok
unfolding rule_written
returns-in_ok-marks-in-Ok c =
    let text = c.in-Ok.ensures.cases in
    let written = rule_of-text c.args.line.now (rw c.without_return.ensures at text.1) in
    IfOk-weaker c.rule_in.result (λ r. r ≡ rule_in c.trimmed.result.now) (λ r. r ≡ rule_of c.args.line.now)
    (λ r h. h ∙ rw (c.trimmed.ensures, c.deref.ensures.value, c.in_ok-marks-in-Ok.ensures, text.0, c.without_return.ensures) (sym written)) c.rule_in.ensures

pub returns-in-Err : goal.returns-in-Err
returns-in-Err c = sym (rule_of-none c.args.line.now (rw c.without_return.ensures at c.in-Err.ensures.cases.0))
