use Rattle.std.proofs.Common.{sym}
use Rattle.collect.proofs.Found.{knows_other}
use Rattle.collect.proofs.reading.look_up.Goals as goal

pub returns-then-not-is_ignore_file-clause-some : goal.returns-then-not-is_ignore_file-clause-some
returns-then-not-is_ignore_file-clause-some g c = knows_other c.args.ignores.now c.args.path.now c.read_one.result (sym c.if-not-is_ignore_file.ensures)
