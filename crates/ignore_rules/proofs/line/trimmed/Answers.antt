use Rattle.std.proofs.Common.{sym, ◌∙◌}
use Rattle.ignore_rules.proofs.Marks.{trimmed-space, trimmed-other}
use Rattle.ignore_rules.proofs.line.trimmed.Goals as goal

pub returns-then-not-is_plain : goal.returns-then-not-is_plain
returns-then-not-is_plain c =
    let cut = c.in-Some.ensures.cases.0 in
    cut ∙ sym (trimmed-other c.in-Some.front.now c.in-Some.last.now (sym c.is_plain.ensures ∙ c.if-not-is_plain.true)) ∙ (rw cut at c.loop-last.invariant)

pub loop-last-preserved : goal.loop-last-preserved
loop-last-preserved c =
    let cut = c.in-Some.ensures.cases.0 in
    sym (trimmed-space c.in-Some.front.now c.in-Some.last.now (sym c.is_plain.ensures ∙ c.if-not-is_plain.false)) ∙ (rw cut at c.loop-last.invariant)
