-- Pieces as the parts of an artifact's text, and the artifact that they are.
use Rattle.std.specs.Prelude.{◌≡◌, ◌≤◌, ℕ, ◌+◌, max, List, length, IsTrue, Option, Some, None}
use Rattle.cache_api.specs.declared.hit.Hit.{Hit}
use Rattle.cache_api.specs.Hits.{span_count, paths_ascend}
use Rattle.cache_api.specs.Reading.{artifact_in}
use Rattle.record_log.specs.declared.kind.TheConstants.{GATE}
use Rattle.artifact_reader.specs.declared.part.Part.{Part}
use Rattle.artifact_reader.specs.Parts.{IsOf, AreOf, at_span, shown, shown_in, span_of, spans_of}
use Rattle.pair_reader.specs.Answers.{HitIsWithin}

-- the offset behind the first gate, where frames begin
abbrev pub first : ℕ
first = GATE + 1

-- the part is of the text, and shows these bytes
abbrev pub IsFrontPart : List ℕ → List ℕ → Part → Type 0
IsFrontPart text bytes part = IsOf first text part × (at_span text (span_of part) ≡ bytes)

-- so do parts one after another
abbrev pub AreShown : List ℕ → List Part → List ℕ → Type 0
AreShown text parts bytes = AreOf first text parts × (shown text (spans_of parts) ≡ bytes)

-- these bytes are the artifact that was found, or they are none
abbrev pub IsFound : List ℕ → List ℕ → Option Hit → Type 0
IsFound text bytes None = artifact_in bytes ≡ None
IsFound text bytes (Some hit) =
    (artifact_in bytes ≡ Some (shown_in text hit)) × HitIsWithin text hit

-- a hit in a text of so many parts: its paths ascend, and its places are as few, and one more for
-- each file
pub record IsHitOf (count : ℕ) (hit : Hit) : Type 0 where
  pub ascend : IsTrue (paths_ascend hit)
  pub few : span_count hit ≤ max 1 count + length hit.files
