use Rattle.std.proofs.Common.{◌∙◌, ap}
use Rattle.run_laws.specs.Clean.{outcome}
use Rattle.run_laws_tests.specs.Books.{effect_of}
use Rattle.run_laws_tests.proofs.Walking.{clean-next}
use Rattle.run_laws_tests.proofs.program.clean.Goals as goal

pub loop-place-preserved : goal.loop-place-preserved
loop-place-preserved c =
    clean-next c.args.mode (effect_of c.args.rules.now) c.args.listing.now c.loop-place.place c.loop-place.all.items c.push.new.self.items c.in_ok-outcome.outcome
    c.loop-place.invariant
    (c.in_ok-outcome.ensures.outcome ∙ ap (outcome c.args.mode (effect_of c.args.rules.now) c.args.listing.now c.loop-place.place) c.deref.ensures.value)
    c.in_ok-push.ensures.items
