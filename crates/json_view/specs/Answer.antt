-- What the calls of a view answer.
use Rattle.std.specs.Prelude.{◌≡◌, ◌≢◌, ℕ, List, Option, Some, None, Result, Ok, Err, ⊤}
use Rattle.serde_json.specs.Data.{Data}
use Rattle.serde_json.specs.View.{view}
use Rattle.json_view.specs.declared.view.View.{View}
use Rattle.json_view.specs.declared.error.Shape.{Shape}
use Rattle.json_view.specs.declared.error.JsonErr.{JsonErr}
use Rattle.json_view.specs.declared.error.JsonErr.TheVariants.{NotJson, WrongKind, OpenComment, OutOfMemory}
use Rattle.json_view.specs.Look.{Look, Nothing, Here, Else}

-- the value that a view shows
abbrev pub data_of : View → Data
data_of v = view v.value

-- bytes with this reading: the view shows it, and NotJson comes where there is none
abbrev pub Reads : Option Data → Result View JsonErr → Type 0
Reads there (Ok v) = there ≡ Some (data_of v)
Reads there (Err NotJson) = there ≡ None
Reads there (Err (WrongKind pointer wanted)) = ⊥
Reads there (Err (OpenComment at)) = ⊥
Reads there (Err OutOfMemory) = ⊤

-- nothing, or the value, is there
abbrev pub found : {A : Type 0} → Option A → Look A
found None = Nothing
found (Some a) = Here a

-- what a look-up answers, by what is there: None for nothing, the value, or WrongKind for something else; memory can be wanting only where something is there
abbrev pub Answers : {A : Type 0} → Look A → List ℕ → Shape → Result (Option A) JsonErr → Type 0
Answers there at shape (Ok answer) = there ≡ found answer
Answers there at shape (Err NotJson) = ⊥
Answers there at shape (Err (WrongKind pointer wanted)) = (there ≡ Else) × (pointer ≡ at) × (wanted ≡ shape)
Answers there at shape (Err (OpenComment at_byte)) = ⊥
Answers there at shape (Err OutOfMemory) = there ≢ Nothing

-- WrongKind with this pointer and shape, or memory is wanting for the pointer
abbrev pub IsWrong : List ℕ → Shape → JsonErr → Type 0
IsWrong at shape NotJson = ⊥
IsWrong at shape (WrongKind pointer wanted) = (pointer ≡ at) × (wanted ≡ shape)
IsWrong at shape (OpenComment at_byte) = ⊥
IsWrong at shape OutOfMemory = ⊤
