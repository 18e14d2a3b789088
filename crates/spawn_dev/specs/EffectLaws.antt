-- The law of a command that does nothing.
use Rattle.std.proofs.Common.{arith}
use Rattle.std.specs.Prelude.{refl}
use Rattle.globs.specs.declared.out_set.OutSet.{OutSet}
use Rattle.spawn_dev.specs.Effects.{IsEffect, no_effect}

pub no_effect_behaves : (outs : OutSet) → IsEffect outs no_effect
no_effect_behaves outs = record { status = omega arith; owned = refl; ascend = tt }
