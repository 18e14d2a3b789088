use Rattle.std.proofs.Common.{subst}
use Rattle.std.specs.Prelude.{Some}
use Rattle.rel_path.specs.Paths.{Path}
use Rattle.prune.specs.Steps.{IsSame, put_at}
use Rattle.prune.proofs.Copied.{wrote}
use Rattle.prune.proofs.copying.write_below.Goals as goal

pub returns-in-Ok-write-clause-writes : goal.returns-in-Ok-write-clause-writes
returns-in-Ok-write-clause-writes g c = λ told.
    let old = (g.T.Tree.state c.args.tree.now).files in let new = (g.T.Tree.state c.write.new.self).files in
    subst (λ (target : Path). IsSame new (put_at target (Some c.args.bytes.now) old)) c.in-Ok.ensures.value
    (wrote c.in-Ok.target c.args.bytes.now old new (c.in-Ok-write.ensures.others told) (c.in-Ok-write.ensures.written told))
