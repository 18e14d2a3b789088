use Rattle.std.proofs.Common.{append_assoc, arith}
use Rattle.std.proofs.lemmas.Grind.{common_steps}
use Rattle.rel_path.proofs.Parts.{join-first, join-more, turn}
use Rattle.listing.proofs.coded.put_text.Goals as goal
use Rattle.listing.proofs.coded.put_text.Goals.{then-i-gt0+in_ok-push, else-i-gt0}

pub loop-i-preserved : goal.loop-i-preserved
loop-i-preserved c =
    let path = c.args.path.now in
    let name = c.index-path-i.result in
    let t = turn path c.loop-i.i name (omega arith, c.index-path-i.is) in
    let first = join-first path c.loop-i.i name t.0 in
    let more = join-more path c.loop-i.i name t.0 (omega arith) in
    elim c.if-i-gt0.branch [
      | then-i-gt0+in_ok-push w ↦ grind (arith, common_steps, append_assoc, more)
      | else-i-gt0 w ↦ grind (arith, common_steps, append_assoc, first)
    ]
