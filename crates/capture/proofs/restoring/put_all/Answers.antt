use Rattle.std.proofs.Common.{ap, sym, ◌∙◌, arith, take_all}
use Rattle.std.specs.Prelude.{Some}
use Rattle.capture.proofs.Owns.{outside_after, same_at}
use Rattle.capture.proofs.Puts.{over_more, over_outside, over_restored, path_at}
use Rattle.capture.proofs.restoring.put_all.Goals as goal

pub write-requires : goal.write-requires
write-requires g c =
    ap (λ h. h c.file-item.result.0) c.loop-file.invariant.keeps.held
    ∙ c.requires.free c.file-item.result.0 (c.requires.fits c.file-item.result.0 (rw (← c.file-item.is) at (path_at c.args.stored.now c.loop-file.file-index c.file-item.result c.loop-file-test.true)))

pub returns-in-Err-Failed-clause-others : goal.returns-in-Err-Failed-clause-others
returns-in-Err-Failed-clause-others g c = λ told.
    outside_after c.args.outs.now c.file-item.result.0 _ _ _
    (c.requires.fits c.file-item.result.0 (rw (← c.file-item.is) at (path_at c.args.stored.now c.loop-file.file-index c.file-item.result c.loop-file-test.true)))
    (over_outside c.args.outs.now c.args.stored.now c.loop-file.file-index _ _ c.requires.fits (c.loop-file.invariant.over told))
    (c.in-Err-Failed.ensures.others told)

pub returns-in-Err-OutOfMemory-clause-others : goal.returns-in-Err-OutOfMemory-clause-others
returns-in-Err-OutOfMemory-clause-others g c = λ told.
    outside_after c.args.outs.now c.file-item.result.0 _ _ _
    (c.requires.fits c.file-item.result.0 (rw (← c.file-item.is) at (path_at c.args.stored.now c.loop-file.file-index c.file-item.result c.loop-file-test.true)))
    (over_outside c.args.outs.now c.args.stored.now c.loop-file.file-index _ _ c.requires.fits (c.loop-file.invariant.over told))
    (c.in-Err-OutOfMemory.ensures.others told)

pub loop-file-preserved : goal.loop-file-preserved
loop-file-preserved g c =
    let old = c.loop-file.invariant in let more = c.in-Ok-write.ensures in
    record {
      keeps = record { rest = more.keeps.rest ∙ old.keeps.rest; held = more.keeps.held ∙ old.keeps.held; faults = omega (arith, more.keeps.faults, old.keeps.faults) };
      faults = more.cause.counted ∙ old.faults;
      over = λ told. over_more c.args.stored.now c.loop-file.file-index c.file-item.result _ _ _ c.requires.ascend c.loop-file-test.true (old.over told)
          (same_at _ _ _ _ (ap (λ x. x.0) c.file-item.is) (more.others told)) (ap (λ x. (g.T.Tree.state c.write.new.self).files x.0) (sym c.file-item.is) ∙ more.written told ∙ ap Some (c.as_slice.ensures ∙ ap (λ x. x.1) c.file-item.is));
    }

pub returns-clause-others : goal.returns-clause-others
returns-clause-others g c = λ told. over_outside c.args.outs.now c.args.stored.now c.loop-file.file-index _ _ c.requires.fits (c.loop-file.invariant.over told)

pub returns-clause-restored : goal.returns-clause-restored
returns-clause-restored g c = λ told. over_restored c.args.outs.now c.args.stored.now _ _ c.requires.fits (rw (← take_all c.loop-file.file-index c.args.stored.now (omega arith)) (c.loop-file.invariant.over told))
