use Rattle.std.proofs.Common.{◌∙◌, sym, ap, Some, None}
use Rattle.std.proofs.lemmas.Str.Pattern.{split_once_first}
use Rattle.cli_words.proofs.Marks.{before-first, behind-found, mark-none}
use Rattle.cli_words.proofs.cuts.cut_at.Goals as goal

pub returns-in-Some-clause-before : goal.returns-in-Some-clause-before
returns-in-Some-clause-before c =
    let t = split_once_first c.args.mark c.args.text.now (Some (c.in-Some.name, c.in-Some.value)) c.in-Some.ensures.cases c.requires in
    t.1 ∙ sym (before-first c.args.mark c.args.text.now)

pub returns-in-Some-clause-behind : goal.returns-in-Some-clause-behind
returns-in-Some-clause-behind c =
    let t = split_once_first c.args.mark c.args.text.now (Some (c.in-Some.name, c.in-Some.value)) c.in-Some.ensures.cases c.requires in
    ap Some t.2 ∙ sym (behind-found c.args.mark c.args.text.now t.0)

pub returns-in-None-clause-before : goal.returns-in-None-clause-before
returns-in-None-clause-before c =
    let t = split_once_first c.args.mark c.args.text.now None c.in-None.ensures.cases c.requires in
    sym (mark-none c.args.mark c.args.text.now t).1

pub returns-in-None-clause-behind : goal.returns-in-None-clause-behind
returns-in-None-clause-behind c =
    let t = split_once_first c.args.mark c.args.text.now None c.in-None.ensures.cases c.requires in
    sym (mark-none c.args.mark c.args.text.now t).0
