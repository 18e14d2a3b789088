use Rattle.std.proofs.Common.{ap, refl, ◌∙◌, arith}
use Rattle.tree_dev.specs.Tree.{within}
use Rattle.capture.proofs.Owns.{at_place}
use Rattle.capture.proofs.Readings.{so_none, so_found, so_fault}
use Rattle.capture.proofs.taking.read_all.Goals as goal

pub loop-path-init : goal.loop-path-init
loop-path-init g c = record { looks = record { files = refl; rest = refl; held = refl; reach = refl; faults = omega arith }; faults = refl; so_far = rw c.new-files.ensures (so_none _ _ _) }

pub read-requires : goal.read-requires
read-requires g c =
    ap (λ h. h c.path-item.result) c.loop-path.invariant.looks.held
    ∙ c.requires.free c.path-item.result (rw (← c.path-item.is) at (at_place c.args.paths.now c.loop-path.path-index c.path-item.result c.loop-path-test.true))

pub loop-path-preserved : goal.loop-path-preserved
loop-path-preserved g c =
    let looks = c.loop-path.invariant.looks in let more = c.in-Ok.ensures.looks in
    record {
      looks = record { files = more.files ∙ looks.files; rest = more.rest ∙ looks.rest; held = more.held ∙ looks.held; reach = more.reach ∙ looks.reach; faults = omega (arith, more.faults, looks.faults) };
      faults = c.in-Ok.ensures.cause.counted ∙ c.loop-path.invariant.faults;
      so_far = so_found _ _ _ c.args.paths.now c.loop-path.path-index c.path-item.result c.in-Ok.found _ _ _ c.requires.ascend c.loop-path-test.true
          (λ told. c.in-Ok.ensures.found told ∙ ap (within c.args.limit) (ap (λ f. f c.path-item.result) looks.files ∙ ap (g.T.Tree.state c.args.tree.now).files c.path-item.is))
          c.loop-path.invariant.so_far (rw c.path-item.is at c.in-Ok-add.ensures);
    }

pub returns-in-Err-clause-reads : goal.returns-in-Err-clause-reads
returns-in-Err-clause-reads g c =
    let looks = c.loop-path.invariant.looks in
    so_fault _ _ _ c.args.paths.now c.loop-path.path-index c.path-item.result c.in-Ok.found _ _ _ c.requires.ascend c.loop-path-test.true
    (λ told. c.in-Ok.ensures.found told ∙ ap (within c.args.limit) (ap (λ f. f c.path-item.result) looks.files ∙ ap (g.T.Tree.state c.args.tree.now).files c.path-item.is))
    c.loop-path.invariant.so_far (rw c.path-item.is at c.in-Err.ensures)
