use Rattle.rel_path.proofs.Parts.{join-first, join-more, turn, text-reads_back}
use Rattle.std.proofs.Common.{arith}
use Rattle.std.proofs.lemmas.Grind.{common_steps}
use Rattle.rel_path.proofs.path.RelPath.text.Goals as goal
use Rattle.rel_path.proofs.path.RelPath.text.Goals.{then-i-gt0+in_ok-push, else-i-gt0}

pub loop-i-preserved : goal.loop-i-preserved
loop-i-preserved c =
    let path = c.components-path.result.now in
    let name = c.index-path-i.result in
    let t = turn path c.loop-i.i name (omega arith, c.index-path-i.is) in
    let first = join-first path c.loop-i.i name t.0 in
    let more = join-more path c.loop-i.i name t.0 (omega arith) in
    grind (arith, common_steps, first, more)

pub returns-clause-back : goal.returns-clause-back
returns-clause-back c = text-reads_back c.args.self.now c.from_string.result c.components-path.ensures.names (grind (arith, common_steps))
