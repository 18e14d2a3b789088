-- Lengths that do not fall are foreseen, and a device that was not touched is as it was.
use Rattle.std.proofs.Common.{refl, arith}
use Rattle.store_dev.specs.Moments.{started}
use Rattle.second_runs.proofs.foreseen.open_for_plan.Goals as goal

pub open_for-requires : goal.open_for-requires
open_for-requires g c = λ i j. c.in-Ok.ensures.ascend i j 0

pub returns-in-Err-clause-unopened : goal.returns-in-Err-clause-unopened
returns-in-Err-clause-unopened g c =
    let d = g.D.StoreDevice in
    let device = c.args.device in
    let only = g.met.D.StoreDevice.only_now device in
    record {
      fault = λ told. tt;
      same = λ told long. refl;
      images = λ told. started d.moment d.images_since device _
          (λ image since. (image, only image since, refl));
      left = λ told. started d.moment _ device _ (λ left since.
          let (image, then, is) = since in (image, only image then, is));
      cause = record { later = omega arith; counted = refl };
    }
