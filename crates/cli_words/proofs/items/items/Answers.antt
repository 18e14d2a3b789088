use Rattle.std.proofs.Common.{◌≡◌, ◌∙◌, ◌++◌, ◌∷◌, [], length, take, drop, ◌-◌, sym, ap, arith, rules}
use Rattle.std.proofs.lemmas.List.{append-nil, length-drop, take_all}
use Rattle.std.proofs.lemmas.Grind.{common_steps}
use Rattle.cli_words.specs.Seen.{all_seen}
use Rattle.cli_words.specs.Grammar.{items}
use Rattle.cli_words.proofs.Walk.{item_step, none_left}
use Rattle.cli_words.proofs.items.items.Goals as goal

pub loop-word-preserved : goal.loop-word-preserved
loop-word-preserved c =
    let first = c.in-Some.ensures.cases.0 in
    let so_far = rw first at c.loop-word.invariant.0 in
    let pushed : c.push.new.self.items ≡ c.loop-word.found.items ++ record { at = c.loop-word.at; item = c.first_item-taken.result.0 } ∷ [] = grind (arith, common_steps) in
    let step = item_step c.args.command c.loop-word.found.items c.first_item-taken.result.0 c.loop-word.at c.first_item-taken.result.1 c.in-Some.word.now c.in-Some.more.now (search rules) (search rules) c.first_item-taken.ensures.fewer in
    let left = length-drop c.first_item-taken.result.1 c.in-Some.more.now in
    let all = take_all (length c.in-Some.more.now - c.first_item-taken.result.1) (drop c.first_item-taken.result.1 c.in-Some.more.now) (omega (arith, left)) in
    (rw pushed (step ∙ so_far), rw all (omega (arith, left, ap length first, c.loop-word.invariant.1, c.first_item-taken.ensures.fewer)))

pub returns-clause-value : goal.returns-clause-value
returns-clause-value c =
    sym (append-nil (all_seen c.loop-word.found.items))
    ∙ ap (λ more. all_seen c.loop-word.found.items ++ more) (sym (none_left c.args.command c.loop-word.at c.loop-word.rest.now c.in_default.ensures.cases))
    ∙ c.loop-word.invariant.0
