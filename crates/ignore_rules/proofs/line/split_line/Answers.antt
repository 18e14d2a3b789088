use Rattle.std.proofs.Common.{sym, ◌∙◌}
use Rattle.ignore_rules.proofs.Lines.{no_newline, at_newline}
use Rattle.ignore_rules.proofs.line.split_line.Goals as goal

pub returns-in_err-end-clause-line : goal.returns-in_err-end-clause-line
returns-in_err-end-clause-line c = rw c.from_residual.ensures (no_newline c.args.bytes.now (sym c.newline_at.ensures ∙ c.in_err-end.was))

pub returns-clause-line : goal.returns-clause-line
returns-clause-line c = at_newline c.args.bytes.now c.in_ok-end.end (sym c.newline_at.ensures ∙ c.in_ok-end.was)
