use Rattle.std.proofs.Common.{sym, subst}
use Rattle.store_dev.specs.Device.{LeavesOnly}
use Rattle.store_dev.specs.Moments.{leaves_more}
use Rattle.record_log.specs.Frames.{ReadsAsOneOrNone}
use Rattle.compact.specs.Current.{generation_in}
use Rattle.compact.specs.Left.{IsUnsealed}
use Rattle.compact.proofs.Stepping.{unsealed_one}
use Rattle.compact.proofs.steps.cleared.Goals as goal

pub returns-in-Ok-clause-images : goal.returns-in-Ok-clause-images
returns-in-Ok-clause-images g c told =
    let p = g.P.StoreDevice in
    let bytes = p.content c.args.to in
    let rests = c.requires told in
    subst (λ d. LeavesOnly p.moment p.images_since c.args.to d (IsUnsealed (generation_in bytes))) (sym c.device.ensures)
    (leaves_more p.moment p.images_since c.args.to c.in-Ok.log.device (ReadsAsOneOrNone (p.images c.args.to)) (IsUnsealed (generation_in bytes))
    (c.in-Ok.ensures.images_ok told) (unsealed_one bytes (p.images c.args.to) rests.sound rests.alone))

pub returns-in-Err-clause-images : goal.returns-in-Err-clause-images
returns-in-Err-clause-images g c told =
    let p = g.P.StoreDevice in
    let bytes = p.content c.args.to in
    let rests = c.requires told in
    leaves_more p.moment p.images_since c.args.to c.in-Err.field-0.store (ReadsAsOneOrNone (p.images c.args.to)) (IsUnsealed (generation_in bytes))
    (c.in-Err.ensures.images_err told) (unsealed_one bytes (p.images c.args.to) rests.sound rests.alone)
