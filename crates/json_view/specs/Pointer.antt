-- Pointers into a JSON value (RFC 6901).
use Rattle.std.specs.Prelude.{◌≡◌, ◌==◌, ℕ, List, [], ◌∷◌, ◌++◌, Some, None, if◌then◌else◌, ◌↔◌, IsSome, codes}
use Rattle.std.specs.List.{Contains}
use Rattle.serde_json.specs.Data.{Data, object, Members}
use Rattle.json_view.specs.declared.pointer.TheConstants.{SLASH, TILDE}
use Rattle.serde_json.specs.Find.{get_member, pointer}

-- a byte of a name as a pointer writes it: `~0` for `~`, `~1` for `/`
abbrev pub escape : ℕ → List ℕ
escape c = if c == TILDE then codes "~0" else (if c == SLASH then codes "~1" else c ∷ [])

-- a name as a pointer writes it
abbrev pub escaped : List ℕ → List ℕ
escaped [] = []
escaped (c ∷ name) = escape c ++ escaped name

-- the pointer with one more step, to the member of that name
unfoldable pub pointer_to : List ℕ → List ℕ → List ℕ
pointer_to at name = at ++ SLASH ∷ escaped name

-- `longer` points to the member of that name, where `at` points to an object, and to nothing where `at` does
pub record ReachesMember (at name longer : List ℕ) : Type 0 where
  pub member : (d : Data) (members : Members) → pointer at d ≡ Some (object members) → pointer longer d ≡ get_member name members
  pub nothing : (d : Data) → pointer at d ≡ None → pointer longer d ≡ None

-- the names are those of the members of the object that `at` points to: a step to a name reaches something exactly where the name is among them
abbrev pub AreNamesAt : Data → List ℕ → List (List ℕ) → Type 0
AreNamesAt d at names = (name : List ℕ) → Contains names name ↔ IsSome (pointer (pointer_to at name) d)
