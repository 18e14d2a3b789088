use Rattle.std.proofs.Common.{sym}
use Rattle.page.proofs.blocks.note_line.Goals as goal

pub returns-in_ok-format-in-Shared-clause-line : goal.returns-in_ok-format-in-Shared-clause-line
returns-in_ok-format-in-Shared-clause-line c = rw (c.in-Shared.is, sym c.in_ok-path-in-Shared.ensures.value, sym c.as_str-path.ensures) c.in_ok-format-in-Shared.ensures.ok

pub returns-in_ok-format-in-Large-clause-line : goal.returns-in_ok-format-in-Large-clause-line
returns-in_ok-format-in-Large-clause-line c = rw (c.in-Large.is, sym c.in_ok-path-in-Large.ensures.value, sym c.as_str-path-in-Large.ensures) c.in_ok-format-in-Large.ensures.ok

pub returns-in_ok-format-in-Full-clause-line : goal.returns-in_ok-format-in-Full-clause-line
returns-in_ok-format-in-Full-clause-line c = rw c.in-Full.is c.in_ok-format-in-Full.ensures.ok
