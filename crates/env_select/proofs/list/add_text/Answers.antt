use Rattle.std.proofs.Common.{◌≢◌, ◌∷◌, ◌∙◌, ℕ, List, sym, lit<}
use Rattle.std.proofs.lemmas.Str.Pattern.{strip_prefix_char}
use Rattle.env_select.specs.Patterns.{exclamation_mark}
use Rattle.env_select.proofs.Indexed.{adds_excluded, keeps_included, adds_included, keeps_excluded}
use Rattle.env_select.proofs.list.add_text.Goals as goal

pub returns-in_ok-add-in-Some-clause-included : goal.returns-in_ok-add-in-Some-clause-included
returns-in_ok-add-in-Some-clause-included c =
    let cut = rw c.in-Some.is at (strip_prefix_char exclamation_mark c.as_str.result.now c.strip_prefix.result c.strip_prefix.ensures.cases (lit< tt)) in
    keeps_included c.args.text.now c.in-Some.behind.now c.args.included.now (sym c.as_str.ensures ∙ cut)

pub returns-in_ok-add-in-Some-clause-excluded : goal.returns-in_ok-add-in-Some-clause-excluded
returns-in_ok-add-in-Some-clause-excluded c =
    let cut = rw c.in-Some.is at (strip_prefix_char exclamation_mark c.as_str.result.now c.strip_prefix.result c.strip_prefix.ensures.cases (lit< tt)) in
    adds_excluded c.args.text.now c.in-Some.behind.now c.args.excluded.now c.add.new.self (sym c.as_str.ensures ∙ cut) c.in_ok-add-in-Some.ensures

pub returns-in_ok-add-in-None-clause-included : goal.returns-in_ok-add-in-None-clause-included
returns-in_ok-add-in-None-clause-included c =
    let never = rw c.in-None.is at (strip_prefix_char exclamation_mark c.as_str.result.now c.strip_prefix.result c.strip_prefix.ensures.cases (lit< tt)) in
    let never' : (rest : List ℕ) → c.args.text.now ≢ exclamation_mark ∷ rest = rw c.as_str.ensures at never in
    let adds = rw (c.as_str-in-None.ensures) at c.in_ok-add-in-None.ensures in
    adds_included c.args.text.now c.args.included.now c.add-in-None.new.self never' adds

pub returns-in_ok-add-in-None-clause-excluded : goal.returns-in_ok-add-in-None-clause-excluded
returns-in_ok-add-in-None-clause-excluded c =
    let never = rw c.in-None.is at (strip_prefix_char exclamation_mark c.as_str.result.now c.strip_prefix.result c.strip_prefix.ensures.cases (lit< tt)) in
    let never' : (rest : List ℕ) → c.args.text.now ≢ exclamation_mark ∷ rest = rw c.as_str.ensures at never in
    keeps_excluded c.args.text.now c.args.excluded.now never'
