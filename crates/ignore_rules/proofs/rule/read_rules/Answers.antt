use Rattle.std.proofs.Common.{◌∙◌, sym}
use Rattle.ignore_rules.specs.Rules.{rule_of, rules_of}
use Rattle.ignore_rules.proofs.Rules.{one_rule}
use Rattle.ignore_rules.proofs.rule.read_rules.Goals as goal

pub returns : goal.returns
unfolding rules_of
returns c =
    let before = rw (c.in_default.ensures.line, one_rule (rule_of c.loop-line.rest.now)) at c.loop-line.invariant in
    c.in_ok-push_rule-2.ensures ∙ sym before
