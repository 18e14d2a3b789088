use Rattle.std.proofs.Common.{◌≡◌, subst, length, arith}
use Rattle.kept_packages.proofs.Indexing.{Indexes, indexes_at, indexes_all}
use Rattle.kept_packages.proofs.folders.index.Goals as goal

pub loop-p-preserved : goal.loop-p-preserved
loop-p-preserved c = indexes_at c.args.packages.now c.count-p-end.ensures.proper c.loop-p.p c.folder.result.now c.loop-p.folders c.add_folder.new.folders (omega (arith, c.loop-p-test.true)) c.folder.ensures c.in_ok-add_folder.ensures.names c.in_ok-add_folder.ensures.added c.loop-p.invariant

pub returns-clause-index : goal.returns-clause-index
returns-clause-index c =
    let space = c.args.packages.now in
    let all : c.loop-p.p ≡ length space.packages = omega (arith, c.loop-p-test.false) in
    indexes_all space c.count-p-end.ensures.proper c.loop-p.folders (subst (λ n. Indexes space n c.loop-p.folders) all c.loop-p.invariant)
