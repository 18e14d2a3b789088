use Rattle.std.proofs.Common.{◌∙◌, sym, ap, Some, None, lit<}
use Rattle.std.proofs.lemmas.Str.Pattern.{split_once_first}
use Rattle.turbo_config.proofs.Hashes.{behind_found, behind_none}
use Rattle.turbo_config.proofs.names.behind_hash.Goals as goal

pub returns-in-Some : goal.returns-in-Some
returns-in-Some c =
    let t = split_once_first 35 c.args.key.now (Some (c.in-Some.field-0-0, c.in-Some.task)) c.in-Some.ensures.cases (lit< tt) in
    ap Some t.2 ∙ sym (behind_found c.args.key.now t.0)

pub returns-in-None : goal.returns-in-None
returns-in-None c =
    let t = split_once_first 35 c.args.key.now None c.in-None.ensures.cases (lit< tt) in
    sym (behind_none c.args.key.now t)
