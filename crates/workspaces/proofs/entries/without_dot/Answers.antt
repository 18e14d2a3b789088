use Rattle.std.proofs.lemmas.Str.Pattern.{strip_prefix_char}
use Rattle.std.proofs.Common.{lit<, sym}
use Rattle.workspaces.proofs.Trims.{dot_kept, dot_alone, not_found, was_found}
use Rattle.workspaces.proofs.entries.without_dot.Goals as goal

pub returns-in_default : goal.returns-in_default
returns-in_default c =
    let found = strip_prefix_char 46 c.args.entry.now c.strip_prefix.result c.strip_prefix.ensures.cases (lit< tt) in
    record { text = sym (dot_kept c.args.entry.now (not_found _ _ _ found c.in_default.is)) }

pub returns-in_default-strip_prefix : goal.returns-in_default-strip_prefix
returns-in_default-strip_prefix c =
    let first = strip_prefix_char 46 c.args.entry.now c.strip_prefix.result c.strip_prefix.ensures.cases (lit< tt) in
    let second = strip_prefix_char 47 c.in-Some.rest.now c.strip_prefix-2.result c.strip_prefix-2.ensures.cases (lit< tt) in
    record { text = sym (dot_alone c.args.entry.now c.in-Some.rest.now (was_found _ _ _ _ first c.in-Some.is) (not_found _ _ _ second c.in_default-strip_prefix.is)) }
