use Rattle.std.proofs.lemmas.Str.Pattern.{strip_suffix_char}
use Rattle.std.proofs.Common.{lit<, sym, ap, ◌∙◌}
use Rattle.workspaces.specs.Entries.{without_slash}
use Rattle.workspaces.proofs.Trims.{slash_kept, slash_dropped, not_found, was_found}
use Rattle.workspaces.proofs.entries.without_slash.Goals as goal

pub returns-in-None : goal.returns-in-None
returns-in-None c =
    let found = strip_suffix_char 47 c.args.entry.now c.strip_suffix.result c.strip_suffix.ensures.cases (lit< tt) in
    record { text = sym (slash_kept c.args.entry.now (not_found _ _ _ found c.in-None.is)) }

pub returns-in-Some : goal.returns-in-Some
returns-in-Some c =
    let found = strip_suffix_char 47 c.args.entry.now c.strip_suffix.result c.strip_suffix.ensures.cases (lit< tt) in
    record { text = sym (ap without_slash (was_found _ _ _ _ found c.in-Some.is) ∙ slash_dropped c.in-Some.rest.now) }
