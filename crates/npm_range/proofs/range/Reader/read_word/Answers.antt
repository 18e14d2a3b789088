use Rattle.std.proofs.Common.{◌≡◌, ◌==◌, ◌∷◌, [], length, Bool, true, false, None, Some, Option, ◌∙◌, sym, ap, refl, rules}
use Rattle.npm_range.specs.Grammar.{is_alone, operator_at, or_exactly}
use Rattle.npm_range.specs.declared.comparator.Operator.{Operator}
use Rattle.npm_range.proofs.Sets.{reads-empty, reads-waiting, reads-alone, reads-before, nothing}
use Rattle.npm_range.proofs.range.Reader.read_word.Goals as goal

pub returns-then-is_empty : goal.returns-then-is_empty
returns-then-is_empty c = let e : c.args.word.now ≡ [] = nothing c.args.word.now (search rules) in rw e (reads-empty c.args.self.now)

pub returns-in-Some : goal.returns-in-Some
returns-in-Some c = reads-waiting c.args.self.now c.take.new.self c.args.word.now c.in-Some.operator c.take.result (search rules) c.in-Some.is c.take.ensures.ok c.take.ensures.err

pub returns-then-is_empty-2 : goal.returns-then-is_empty-2
returns-then-is_empty-2 c =
    let alone : is_alone (operator_at c.args.word.now) ≡ true = sym (ap (λ rest. length rest == 0) c.operator_at-operator.ensures.rest) ∙ search rules in
    reads-alone c.args.self.now _ c.args.word.now (search rules) c.in_default.is alone c.operator_at-operator.ensures.operator refl

pub returns : goal.returns
returns c =
    let alone : is_alone (operator_at c.args.word.now) ≡ false = sym (ap (λ rest. length rest == 0) c.operator_at-operator.ensures.rest) ∙ search rules in
    let found = c.unwrap_or.ensures ∙ ap or_exactly c.operator_at-operator.ensures.operator in
    reads-before c.args.self.now c.take-2.new.self c.args.word.now c.operator_at-operator.result.1.now c.unwrap_or.result c.take-2.result (search rules) c.in_default.is alone found c.operator_at-operator.ensures.rest c.take-2.ensures.ok c.take-2.ensures.err
