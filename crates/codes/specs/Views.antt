-- What Rust hands out, as a reader gives it.
use Rattle.std.specs.Prelude.{List, ℕ, Option, Some, None}
use Rattle.codes.specs.Codes.{Taken}

-- a value and the rest, without where they lie in memory
abbrev pub taken_by : {P A : Type 0} → (P → A) → (P → List ℕ) → Option P → Taken A
taken_by value rest None = None
taken_by value rest (Some p) = Some (value p, rest p)

-- what was found, without where it lies in memory
abbrev pub found_as : {V W : Type 0} → (V → W) → Option V → Option W
found_as value None = None
found_as value (Some v) = Some (value v)
