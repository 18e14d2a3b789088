-- Reading at the front of the parts of a text.
use Rattle.std.specs.Prelude.{◌≡◌, ◌≤◌, ◌+◌, ℕ, List, [], ◌∷◌, length, map, max, sum_by, Some, None, Result, Ok, Err}
use Rattle.codes.specs.Codes.{Taken}
use Rattle.rel_path.specs.declared.span.Span.{Span}
use Rattle.cache_api.specs.declared.hit.HitFile.{HitFile}
use Rattle.cache_api.specs.Artifacts.{File}
use Rattle.artifact_reader.specs.declared.cursor.Cursor.{Cursor}
use Rattle.artifact_reader.specs.declared.part.Part.{Part}
use Rattle.artifact_reader.specs.declared.stop.Stop.{Stop}
use Rattle.artifact_reader.specs.declared.stop.Stop.TheVariants.{NoArtifact, Unknown, OutOfMemory}
use Rattle.artifact_reader.specs.Parts.{HasUnknown, LiesIn, shown, spans_of}
use Rattle.artifact_reader.specs.Cursors.{left_in, AreOn, GoesOn}

-- Why nothing was read: nothing as the reader says stands there, or something that is to be read is not known.
abbrev pub IsStop : {A : Type 0} → (List ℕ → Taken A) → List Part → Stop → Type 0
IsStop read parts NoArtifact =
    (low : ℕ) (text : List ℕ) → AreOn low text parts → read (shown text (spans_of parts)) ≡ None
IsStop read parts Unknown = HasUnknown parts
IsStop read parts OutOfMemory = Unit {0}

-- the value at the front, and what is left
pub record IsValue {A : Type 0} (value : List ℕ → A) (read : List ℕ → Taken A) (parts left : List Part) : Type 0 where
  pub goes : GoesOn parts left
  pub is : (low : ℕ) (text : List ℕ) → AreOn low text parts
      → read (shown text (spans_of parts)) ≡ Some (value text, shown text (spans_of left))

-- What stands at the front as the reader says, by what it is in the text, and the parts behind it; or why there is none.
abbrev pub IsRead : {T A : Type 0} → (List ℕ → T → A) → (List ℕ → Taken A) → List Part
    → Result (T × Cursor) Stop → Type 0
IsRead value read parts (Ok p) = IsValue (λ text. value text p.0) read parts (left_in p.1)
IsRead value read parts (Err stop) = IsStop read parts stop

abbrev pub AllIn : ℕ → List ℕ → List Span → Type 0
AllIn low text [] = Unit {0}
AllIn low text (span ∷ spans) = LiesIn low text span × AllIn low text spans

-- all places of files lie there
abbrev pub EachIn : ℕ → List ℕ → List HitFile → Type 0
EachIn low text [] = Unit {0}
EachIn low text (file ∷ files) = AllIn low text file.spans × EachIn low text files

-- Places that were taken out lie where the parts do, and are as few: one more than the parts that are left less, as the
-- front of a part may be among them. Where no part is left, one is counted.
pub record ArePlaces (parts : List Part) (spans : List Span) (left : List Part) : Type 0 where
  pub lie : (low : ℕ) (text : List ℕ) → AreOn low text parts → AllIn low text spans
  pub few : length spans + max 1 (length left) ≤ max 1 (length parts) + 1

-- the same of the places of files
pub record AreFilePlaces (parts : List Part) (files : List HitFile) (left : List Part) : Type 0 where
  pub lie : (low : ℕ) (text : List ℕ) → AreOn low text parts → EachIn low text files
  pub few : sum_by (λ file. length file.spans) files + max 1 (length left) ≤ max 1 (length parts) + length files

-- a file by what it is in the text
abbrev pub file_in : List ℕ → HitFile → File
file_in text file = (file.path, shown text file.spans)

abbrev pub files_in : List ℕ → List HitFile → List File
files_in text files = map (file_in text) files
