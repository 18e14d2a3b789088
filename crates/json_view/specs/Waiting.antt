-- A text in the making, with a comma that may turn out to be a trailing one.
use Rattle.std.specs.Prelude.{◌≡◌, ◌<◌, ℕ, List, ◌∷◌, ◌+◌, ◌++◌, length, slice_set, Bool, true, false, Option, Some, None, ⊤}
use Rattle.json_view.specs.declared.bytes.TheConstants.{SPACE}
use Rattle.json_view.specs.declared.plain.Part.{Part}
use Rattle.json_view.specs.Plain.{closes, shown}

-- the place of the comma is within the text
abbrev pub IsWithin : Option ℕ → List ℕ → Type 0
IsWithin None text = ⊤
IsWithin (Some at) text = at < length text

-- the text, with a blank over the comma if a closing bracket comes next
abbrev pub settled : Bool → Option ℕ → List ℕ → List ℕ
settled false waiting text = text
settled true None text = text
settled true (Some at) text = slice_set text at SPACE

-- a byte was added: whatever comes behind it, the whole text is the same
pub record Adds (m : ℕ × Part) (waiting : Option ℕ) (text : List ℕ) (now_waiting : Option ℕ) (now : List ℕ) : Type 0 where
  pub within : IsWithin now_waiting now
  pub longer : length now ≡ length text + 1
  pub same : (behind : List (ℕ × Part)) → settled (closes behind) now_waiting now ++ shown behind ≡ settled (closes (m ∷ behind)) waiting text ++ shown (m ∷ behind)
