use Rattle.lock_entries.specs.Lockfile.{packages_refusal, packages_in}
use Rattle.lock_entries.proofs.lockfile.entries_under.Goals as goal

pub returns-in-Some-clause-entries : goal.returns-in-Some-clause-entries
unfolding packages_refusal packages_in
returns-in-Some-clause-entries c = rw (← c.in-Some.ensures) c.entries_of.ensures.entries
