use Rattle.std.proofs.Common.{refl}
use Rattle.os_children.proofs.shell.shell.Goals as goal

pub returns-clause-vars : goal.returns-clause-vars
returns-clause-vars c = λ name.
    rw (c.in_ok-set_all-2.ensures.set name, c.in_ok-set_all.ensures.set name, c.clear.ensures.vars name, c.as_slice.ensures, c.as_slice-2.ensures) refl
