use Rattle.std.proofs.Common.{arith}
use Rattle.pair_writer.proofs.pieces.Pieces.plain.Goals as goal

pub returns-clause-bytes : goal.returns-clause-bytes
returns-clause-bytes c = λ i. omega (arith, c.type_inv.bytes i)
