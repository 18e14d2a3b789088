use Rattle.std.proofs.Common.{refl}
use Rattle.spawn_dev.proofs.Alone.{owns_nothing, files_same}
use Rattle.device_tests.proofs.generic.run_plain.Goals as goal

pub run_alone-requires-clause-absent : goal.run_alone-requires-clause-absent
run_alone-requires-clause-absent g c = λ told path owned. absurd (owns_nothing c.args.command path c.requires.outs owned)

pub returns-clause-files : goal.returns-clause-files
returns-clause-files g c = files_same c.args.command c.args.command (g.W.Tree.state c.args.world.now).files (g.W.Tree.state c.run_alone.new.world).files refl c.requires.outs c.run_alone.ensures.outside

pub returns-in_err-ended-clause-files : goal.returns-in_err-ended-clause-files
returns-in_err-ended-clause-files g c = files_same c.args.command c.args.command (g.W.Tree.state c.args.world.now).files (g.W.Tree.state c.run_alone.new.world).files refl c.requires.outs c.run_alone.ensures.outside
