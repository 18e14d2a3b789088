-- Refusals of a lockfile.
use Rattle.std.specs.Prelude.{◌≡◌, ◌⊎◌, Option, Some, None, Result, MatchResult}
use Rattle.json_view.specs.declared.error.JsonErr.{JsonErr}
use Rattle.json_view.specs.declared.error.JsonErr.TheVariants.{NotJson as not_json, WrongKind as wrong_kind, OpenComment, OutOfMemory as json_memory}
use Rattle.lock_entries.specs.declared.error.LockErr.{LockErr}
use Rattle.lock_entries.specs.declared.error.LockErr.TheVariants.{NotJson, WrongKind, OutOfMemory}

abbrev pub as_refusal : JsonErr → LockErr
as_refusal not_json = NotJson
as_refusal (wrong_kind pointer wanted) = WrongKind pointer wanted
as_refusal (OpenComment at) = NotJson
as_refusal json_memory = OutOfMemory

-- an error is the refusal, or want of memory, which may come at any time
abbrev pub MayRefuse : Option LockErr → LockErr → Type 0
MayRefuse refusal e = (e ≡ OutOfMemory) ⊎ (refusal ≡ Some e)

-- accepted without a refusal alone, with this said of the answer
abbrev pub Accepts : {A : Type 0} → Option LockErr → (A → Type 0) → Result A LockErr → Type 0
Accepts refusal P result = MatchResult result (λ a. (refusal ≡ None) × P a) (MayRefuse refusal)
