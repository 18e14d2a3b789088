use Rattle.std.proofs.Common.{◌∙◌, ◌<◌, false, subst, sym, get_or}
use Rattle.std.specs.Prelude.{None, IfSome}
use Rattle.task_inputs.specs.declared.files.FileFacts.{FileFacts}
use Rattle.task_inputs.proofs.Places.{near_next, each_at}
use Rattle.task_inputs.proofs.files.near_places.Goals as goal

pub loop-place-preserved : goal.loop-place-preserved
loop-place-preserved c =
    let below = subst (λ n. IfSome (get_or c.args.files.now c.loop-place.place (record { home = None; may_count = false; ignored = false; global = false })).home (λ h. h < n)) (sym c.loop-place.invariant.count)
    (each_at (λ (f : FileFacts). IfSome f.home (λ h. h < c.args.count)) c.args.files.now c.loop-place.place (record { home = None; may_count = false; ignored = false; global = false }) c.loop-place-test.true c.requires.below) in
    let next = near_next c.args.files.now c.loop-place.place (record { home = None; may_count = false; ignored = false; global = false }) c.loop-place.rows.items c.add_near.new.rows.items c.loop-place-test.true c.loop-place.invariant.near below c.in_ok-add_near.ensures.added in
    record { count = next.1 ∙ c.loop-place.invariant.count; near = next.0 }
