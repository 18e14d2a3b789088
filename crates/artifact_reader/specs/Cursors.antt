-- What is left of the parts of a text.
use Rattle.std.specs.Prelude.{◌≡◌, ◌⊎◌, ◌<◌, ◌≤◌, ◌^◌, ◌+◌, ℕ, false, List, [], ◌∷◌, ◌++◌, length, Option, Some, None}
use Rattle.artifact_reader.specs.declared.part.Part.{Part}
use Rattle.artifact_reader.specs.declared.cursor.Cursor.{Cursor}
use Rattle.artifact_reader.specs.Parts.{IsOf, AreOf, IsWell, AreWell, HasUnknown, at_span, shown, span_of, spans_of, is_known}

abbrev pub with_front : Option Part → List Part → List Part
with_front None parts = parts
with_front (Some part) parts = part ∷ parts

-- the parts that are left
abbrev pub left_in : Cursor → List Part
left_in cursor = with_front cursor.front cursor.rest.now

-- the parts are of this text, from that offset on
abbrev pub AreOn : ℕ → List ℕ → List Part → Type 0
AreOn low text parts = (length text < 2 ^ 64) × AreOf low text parts

-- what stays when parts are passed: they are as well as before, of the same texts, and none is unknown among known ones
pub record GoesOn (parts left : List Part) : Type 0 where
  pub well : AreWell parts → AreWell left
  pub on : (low : ℕ) (text : List ℕ) → AreOn low text parts → AreOn low text left
  pub unknown : HasUnknown left → HasUnknown parts
  pub few : length left ≤ length parts

-- a front of the parts is taken out: it is not empty and not too long, and what is left shows the rest of the text
pub record IsTaken (most : ℕ) (parts : List Part) (part : Part) (left : List Part) : Type 0 where
  pub goes : GoesOn parts left
  pub well : IsWell part
  pub some : 0 < (span_of part).len
  pub few : (span_of part).len ≤ most
  pub unknown : is_known part ≡ false → HasUnknown parts
  -- one part less is left, unless this was the front of one
  pub count : (length left + 1 ≤ length parts) ⊎ (((span_of part).len ≡ most) × (0 < length left) × (length left ≤ length parts))
  pub of_text : (low : ℕ) (text : List ℕ) → AreOn low text parts → IsOf low text part
  pub shows : (low : ℕ) (text : List ℕ) → AreOn low text parts
      → shown text (spans_of parts) ≡ at_span text (span_of part) ++ shown text (spans_of left)

-- the parts show nothing
abbrev pub AreOver : List Part → Type 0
AreOver parts = (text : List ℕ) → shown text (spans_of parts) ≡ []
