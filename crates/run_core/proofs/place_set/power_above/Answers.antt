use Rattle.std.proofs.Common.{◌*◌, suc, sym, ap, ◌∙◌, arith}
use Rattle.std.proofs.Math.Nat.{pow-suc}
use Rattle.run_core.proofs.place_set.power_above.Goals as goal

pub loop-power-preserved : goal.loop-power-preserved
loop-power-preserved c =
    let p = c.loop-power.invariant.power in
    record { power = (suc p.0, ap (λ n. n * 2) p.1 ∙ sym (pow-suc 2 p.0)); above = omega arith; small = omega arith }
