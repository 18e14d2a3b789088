use Rattle.std.proofs.Common.{refl}
use Rattle.std.proofs.lemmas.Bool.{ne_eqb}
use Rattle.glob_syntax.specs.Characters.{carriage_return}
use Rattle.ignore_rules.proofs.Marks.{without_return-last}
use Rattle.ignore_rules.proofs.line.without_return.Goals as goal

pub returns-in-Some : goal.returns-in-Some
returns-in-Some c = rw (c.in-Some.ensures.cases.0, without_return-last c.in-Some.front.now c.in-Some.last.now, c.if-last-eq13.true) refl

pub returns-in_default : goal.returns-in_default
returns-in_default c = rw (c.in-Some.ensures.cases.0, without_return-last c.in-Some.front.now c.in-Some.last.now, ne_eqb c.in-Some.last.now carriage_return c.if-last-eq13.false) refl
