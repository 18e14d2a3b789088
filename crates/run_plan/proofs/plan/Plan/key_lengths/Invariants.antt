use Rattle.std.proofs.Common.{◌≡◌, ℕ, length, map}
use Rattle.std.specs.List.{range_with_len}
use Rattle.listing.specs.Memory.{capped}
use Rattle.run_laws.specs.Keys.{key_of}
use Rattle.run_plan.proofs.plan.Plan.key_lengths.Given as goal

abbrev pub invariant-places : goal.invariant-places
invariant-places l =
    l.lengths.items ≡ map (λ (place : ℕ). capped (length (key_of l.self.listing place)))
    (range_with_len 0 l.place)
