-- What a sink has after a call.
use Rattle.std.specs.Prelude.{◌≡◌, ℕ, List, ◌++◌, take, Result, Ok, Err}
use Rattle.tree_dev.specs.declared.error.DevErr.{DevErr}
use Rattle.tree_dev.specs.declared.error.DevErr.TheVariants.{Failed, OutOfMemory}

-- all the bytes after those of before; where the device failed, some first part of them; where memory was wanting, none
abbrev pub Appends : {T : Type 0} → List ℕ → List ℕ → List ℕ → Result T DevErr → Type 0
Appends bytes old new (Ok _) = new ≡ old ++ bytes
Appends bytes old new (Err Failed) = (count : ℕ) × (new ≡ old ++ take count bytes)
Appends bytes old new (Err OutOfMemory) = new ≡ old
