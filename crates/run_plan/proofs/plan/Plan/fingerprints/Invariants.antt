use Rattle.std.proofs.Common.{◌≡◌, ◌++◌, ℕ, drop, map}
use Rattle.sha2.specs.Sha256.{sha256}
use Rattle.run_laws.specs.Keys.{key_of}
use Rattle.run_plan.proofs.plan.Plan.fingerprints.Given as goal

abbrev pub invariant-loop-place : goal.invariant-loop-place
invariant-loop-place l =
    let f = λ (place : ℕ). sha256 (key_of l.self.listing place) in
    l.prints.items ++ (map sha256 l.keys.items ++ map f (drop l.place-index l.places))
    ≡ map f l.places
