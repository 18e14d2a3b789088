-- An artifact that was read from the parts of its text.
use Rattle.std.specs.Prelude.{◌≡◌, ◌≤◌, ◌+◌, ℕ, max, List, length, Some, None, Result, Ok, Err}
use Rattle.cache_api.specs.declared.hit.Hit.{Hit}
use Rattle.cache_api.specs.Hits.{span_count}
use Rattle.codes.specs.Codes.{read_str, read_both, whole_of}
use Rattle.cache_api.specs.Reading.{read_files, artifact_in}
use Rattle.artifact_reader.specs.declared.stop.Stop.{Stop}
use Rattle.artifact_reader.specs.declared.stop.Stop.TheVariants.{NoArtifact, Unknown, OutOfMemory}
use Rattle.artifact_reader.specs.declared.part.Part.{Part}
use Rattle.artifact_reader.specs.declared.artifact.Reading.{Reading}
use Rattle.artifact_reader.specs.declared.artifact.Reading.TheVariants as reading
use Rattle.artifact_reader.specs.Parts.{HasUnknown, shown, shown_in, spans_of}
use Rattle.artifact_reader.specs.Cursors.{AreOn}
use Rattle.artifact_reader.specs.Reads.{AllIn, EachIn}

-- The parts' text is read as an artifact, of which is told where it stands; or it is none. Nothing is said where
-- something that is to be read is not known.
abbrev pub IsReadingOf : List Part → Reading → Type 0
IsReadingOf parts (reading.Hit hit) = (low : ℕ) (text : List ℕ) → AreOn low text parts
    → artifact_in (shown text (spans_of parts)) ≡ Some (shown_in text hit)
IsReadingOf parts reading.NoArtifact = (low : ℕ) (text : List ℕ) → AreOn low text parts
    → artifact_in (shown text (spans_of parts)) ≡ None
IsReadingOf parts reading.Unknown = HasUnknown parts

-- the places of a hit lie where the parts do
pub record HitLies (low : ℕ) (text : List ℕ) (hit : Hit) : Type 0 where
  pub log : AllIn low text hit.log
  pub files : EachIn low text hit.files

-- they are as few as the parts, and one more for each file
abbrev pub IsFew : List Part → Hit → Type 0
IsFew parts hit = span_count hit ≤ max 1 (length parts) + length hit.files

-- a log and files with nothing behind them, or why there are none
pub record IsHitIn (parts : List Part) (hit : Hit) : Type 0 where
  pub is : (low : ℕ) (text : List ℕ) → AreOn low text parts
      → whole_of (read_both read_str read_files (shown text (spans_of parts))) ≡ Some (shown_in text hit)
  pub lies : (low : ℕ) (text : List ℕ) → AreOn low text parts → HitLies low text hit
  pub few : IsFew parts hit

abbrev pub IsHitOf : List Part → Result Hit Stop → Type 0
IsHitOf parts (Ok hit) = IsHitIn parts hit
IsHitOf parts (Err NoArtifact) = (low : ℕ) (text : List ℕ) → AreOn low text parts
    → whole_of (read_both read_str read_files (shown text (spans_of parts))) ≡ None
IsHitOf parts (Err Unknown) = HasUnknown parts
IsHitOf parts (Err OutOfMemory) = Unit {0}

-- what holds of a hit, and of no other reading
abbrev pub OnHit : Reading → (Hit → Type 0) → Type 0
OnHit (reading.Hit hit) P = P hit
OnHit reading.NoArtifact P = Unit {0}
OnHit reading.Unknown P = Unit {0}
