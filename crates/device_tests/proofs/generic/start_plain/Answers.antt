use Rattle.spawn_dev.proofs.Alone.{owns_nothing}
use Rattle.device_tests.proofs.Apart.{reads_nothing}
use Rattle.device_tests.proofs.generic.start_plain.Goals as goal

pub start-requires-clause-absent : goal.start-requires-clause-absent
start-requires-clause-absent g c = λ told path owned. absurd (owns_nothing c.args.command path c.requires.plain.outs owned)

pub start-requires-clause-clear : goal.start-requires-clause-clear
start-requires-clause-clear g c = λ place other at path owned. absurd (owns_nothing c.args.command path c.requires.plain.outs owned)

pub start-requires-clause-reads : goal.start-requires-clause-reads
start-requires-clause-reads g c = λ path reads. absurd (let none = reads_nothing c.args.command path c.requires.plain.above c.requires.plain.reads in cc)
