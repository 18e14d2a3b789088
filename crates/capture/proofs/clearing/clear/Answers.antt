use Rattle.std.proofs.Common.{ap, ◌∙◌, arith, take_all}
use Rattle.capture.proofs.Owns.{place_taken, same_at, removed_more, removed_all, removed_outside, outside_after}
use Rattle.capture.proofs.clearing.clear.Goals as goal

pub remove-requires : goal.remove-requires
remove-requires g c =
    ap (λ h. h c.path-item.result) c.loop-path.invariant.keeps.held
    ∙ c.requires.free c.path-item.result (place_taken c.args.outs.now c.in-Ok.paths c.as_slice-path-items.result.now c.loop-path.path-index c.path-item.result c.as_slice-path-items.ensures c.loop-path-test.true c.path-item.is c.in-Ok.ensures.lists.taken)

pub returns-in-Err-Failed-clause-others : goal.returns-in-Err-Failed-clause-others
returns-in-Err-Failed-clause-others g c = λ told.
    outside_after c.args.outs.now c.path-item.result _ _ _
    (place_taken c.args.outs.now c.in-Ok.paths c.as_slice-path-items.result.now c.loop-path.path-index c.path-item.result c.as_slice-path-items.ensures c.loop-path-test.true c.path-item.is c.in-Ok.ensures.lists.taken)
    (removed_outside c.args.outs.now c.as_slice-path-items.result.now c.loop-path.path-index _ _ (rw c.as_slice-path-items.ensures c.in-Ok.ensures.lists.taken) (c.loop-path.invariant.removed told))
    (c.in-Err-Failed.ensures.others told)

pub returns-in-Err-OutOfMemory-clause-others : goal.returns-in-Err-OutOfMemory-clause-others
returns-in-Err-OutOfMemory-clause-others g c = λ told.
    outside_after c.args.outs.now c.path-item.result _ _ _
    (place_taken c.args.outs.now c.in-Ok.paths c.as_slice-path-items.result.now c.loop-path.path-index c.path-item.result c.as_slice-path-items.ensures c.loop-path-test.true c.path-item.is c.in-Ok.ensures.lists.taken)
    (removed_outside c.args.outs.now c.as_slice-path-items.result.now c.loop-path.path-index _ _ (rw c.as_slice-path-items.ensures c.in-Ok.ensures.lists.taken) (c.loop-path.invariant.removed told))
    (c.in-Err-OutOfMemory.ensures.others told)

pub loop-path-preserved : goal.loop-path-preserved
loop-path-preserved g c =
    let old = c.loop-path.invariant in let more = c.in-Ok-remove.ensures in
    record {
      keeps = record { rest = more.keeps.rest ∙ old.keeps.rest; held = more.keeps.held ∙ old.keeps.held; faults = omega (arith, more.keeps.faults, old.keeps.faults) };
      reach = omega (arith, more.reach, old.reach);
      faults = more.cause.counted ∙ old.faults;
      removed = λ told. removed_more c.as_slice-path-items.result.now c.loop-path.path-index c.path-item.result _ _ _ c.loop-path-test.true (old.removed told)
          (same_at _ _ _ _ c.path-item.is (more.others told)) (rw c.path-item.is at (more.removed told));
    }

pub returns-clause-others : goal.returns-clause-others
returns-clause-others g c = λ told. removed_outside c.args.outs.now c.as_slice-path-items.result.now c.loop-path.path-index _ _ (rw c.as_slice-path-items.ensures c.in-Ok.ensures.lists.taken) (c.loop-path.invariant.removed told)

pub returns-clause-cleared : goal.returns-clause-cleared
returns-clause-cleared g c = λ told.
    removed_all g.T.Tree.tells c.args.outs.now c.in-Ok.paths _ _ told c.in-Ok.ensures.lists
    (rw (← c.as_slice-path-items.ensures, ← take_all c.loop-path.path-index c.as_slice-path-items.result.now (omega arith)) (c.loop-path.invariant.removed told))
