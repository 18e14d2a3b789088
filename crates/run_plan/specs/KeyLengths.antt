-- How long the keys of a plan are.
use Rattle.std.specs.Prelude.{ℕ, List, length, map}
use Rattle.std.specs.List.{range_with_len}
use Rattle.listing.specs.Memory.{capped}
use Rattle.run_laws.specs.Keys.{key_of}
use Rattle.run_plan.specs.declared.plan.Plan.{Plan}

-- the length of each task's key in bytes, or the greatest `usize` where it is more, in the order of
-- the plan
abbrev pub key_lengths : Plan → List ℕ
key_lengths plan =
    map (λ place. capped (length (key_of plan.listing place))) (range_with_len 0 (length plan.listing.parts))
