-- Worlds in which commands are started at one place after the other.
use Rattle.std.specs.Prelude.{◌≡◌, ◌≤◌, ℕ, false}
use Rattle.spawn_dev.specs.Spawn.{Runs, live}

-- none runs at this place or a later one
abbrev pub AreBelow : {B : Type 0} → ℕ → Runs B → Type 0
AreBelow n runs = (place : ℕ) → n ≤ place → live runs place ≡ false
