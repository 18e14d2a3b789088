use Rattle.std.proofs.Common.{◌∙◌, sym, refl}
use Rattle.glob_syntax.specs.Characters.{slash}
use Rattle.glob_syntax.specs.Marks.{is_plain}
use Rattle.ignore_rules.specs.Marks.{dangles}
use Rattle.ignore_rules.proofs.Marks.{ends_in-last, front_of-last}
use Rattle.ignore_rules.proofs.rule.cut_end.Goals as goal

pub returns-then-dangles : goal.returns-then-dangles
returns-then-dangles c =
    let end = ends_in-last dangles c.in-Some.front.now c.in-Some.last.now ∙ sym c.dangles.ensures ∙ c.if-dangles.true in
    rw (c.in-Some.ensures.cases.0, end) refl

pub returns-then-is_plain : goal.returns-then-is_plain
returns-then-is_plain c =
    let end = ends_in-last dangles c.in-Some.front.now c.in-Some.last.now ∙ sym c.dangles.ensures ∙ c.if-dangles.false in
    let slash = ends_in-last (is_plain slash) c.in-Some.front.now c.in-Some.last.now ∙ sym c.is_plain.ensures ∙ c.if-is_plain.true in
    rw (c.in-Some.ensures.cases.0, end, slash, front_of-last c.in-Some.front.now c.in-Some.last.now) refl

pub returns-else-is_plain : goal.returns-else-is_plain
returns-else-is_plain c =
    let end = ends_in-last dangles c.in-Some.front.now c.in-Some.last.now ∙ sym c.dangles.ensures ∙ c.if-dangles.false in
    let slash = ends_in-last (is_plain slash) c.in-Some.front.now c.in-Some.last.now ∙ sym c.is_plain.ensures ∙ c.if-is_plain.false in
    rw (c.in-Some.ensures.cases.0, end, slash) refl
