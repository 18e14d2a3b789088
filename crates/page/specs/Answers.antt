-- What the calls of a page answer.
use Rattle.std.specs.Prelude.{◌≡◌, ℕ, Bool, true, false, List, ◌++◌, take, Result, Ok, Err}
use Rattle.rel_path.specs.Causes.{Counts}
use Rattle.tree_dev.specs.declared.error.DevErr.{DevErr}
use Rattle.tree_dev.specs.declared.error.DevErr.TheVariants as device
use Rattle.page.specs.declared.error.PageErr.{PageErr}
use Rattle.page.specs.declared.error.PageErr.TheVariants.{SinkFault, OutOfMemory}

abbrev pub as_page_err : DevErr → PageErr
as_page_err device.Failed = SinkFault
as_page_err device.OutOfMemory = OutOfMemory

abbrev pub is_sink_fault : PageErr → Bool
is_sink_fault SinkFault = true
is_sink_fault OutOfMemory = false

-- a fault of the sink comes only where its count of faults rose, and every other answer leaves it as it is
abbrev pub HasCause : {T : Type 0} → ℕ → ℕ → Result T PageErr → Type 0
HasCause before now result = Counts is_sink_fault before now result

-- what the sink has: all the bytes after those of before; where it failed, some first part of them; where memory was wanting, none
abbrev pub Emits : {T : Type 0} → List ℕ → List ℕ → List ℕ → Result T PageErr → Type 0
Emits bytes old new (Ok _) = new ≡ old ++ bytes
Emits bytes old new (Err SinkFault) = (count : ℕ) × (new ≡ old ++ take count bytes)
Emits bytes old new (Err OutOfMemory) = new ≡ old
