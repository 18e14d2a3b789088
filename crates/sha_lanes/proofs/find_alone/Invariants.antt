use Rattle.std.proofs.Common.{◌≡◌, length, map}
use Rattle.sha_lanes.specs.UnderWay.{HasDigests}
use Rattle.sha_lanes.proofs.find_alone.Given as goal

abbrev pub invariant-texts : goal.invariant-texts
invariant-texts l = (length l.found ≡ length l.texts) × HasDigests (map (λ text. text.now) l.texts) l.found l.i
