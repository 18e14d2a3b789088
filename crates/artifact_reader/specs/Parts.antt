-- A text that stands in a store as parts one after another.
use Rattle.std.specs.Prelude.{◌≡◌, ◌⊎◌, ◌≤◌, ℕ, ◌+◌, Bool, true, false, List, [], ◌∷◌, ◌++◌, length, map, take, drop}
use Rattle.rel_path.specs.declared.span.Span.{Span}
use Rattle.cache_api.specs.declared.hit.Hit.{Hit}
use Rattle.cache_api.specs.Artifacts.{Artifact}
use Rattle.artifact_reader.specs.declared.part.Part.{Part}
use Rattle.artifact_reader.specs.declared.part.Part.TheVariants.{Known, Unknown}

-- the bytes at a place of a text
abbrev pub at_span : List ℕ → Span → List ℕ
at_span text span = take span.len (drop span.at text)

-- and at places one after another
abbrev pub shown : List ℕ → List Span → List ℕ
shown text [] = []
shown text (span ∷ spans) = at_span text span ++ shown text spans

-- the artifact for which a hit stands
abbrev pub shown_in : List ℕ → Hit → Artifact
shown_in text hit = (shown text hit.log, map (λ file. (file.path, shown text file.spans)) hit.files)

-- where a part stands
abbrev pub span_of : Part → Span
span_of (Known bytes span) = span
span_of (Unknown span) = span

abbrev pub is_known : Part → Bool
is_known (Known bytes span) = true
is_known (Unknown span) = false

abbrev pub spans_of : List Part → List Span
spans_of parts = map span_of parts

-- a known part has as many bytes as its place
abbrev pub IsWell : Part → Type 0
IsWell (Known bytes span) = length bytes.now ≡ span.len
IsWell (Unknown span) = Unit {0}

abbrev pub AreWell : List Part → Type 0
AreWell [] = Unit {0}
AreWell (part ∷ parts) = IsWell part × AreWell parts

-- the place lies in the text, from that offset on
pub record LiesIn (low : ℕ) (text : List ℕ) (span : Span) : Type 0 where
  pub from : low ≤ span.at
  pub to : span.at + span.len ≤ length text

-- a part of this text: its place lies in it, and its bytes, where they are known, stand there
abbrev pub IsOf : ℕ → List ℕ → Part → Type 0
IsOf low text (Known bytes span) = LiesIn low text span × (bytes.now ≡ at_span text span)
IsOf low text (Unknown span) = LiesIn low text span

abbrev pub AreOf : ℕ → List ℕ → List Part → Type 0
AreOf low text [] = Unit {0}
AreOf low text (part ∷ parts) = IsOf low text part × AreOf low text parts

-- some part is not known
abbrev pub HasUnknown : List Part → Type 0
HasUnknown [] = ⊥
HasUnknown (part ∷ parts) = (is_known part ≡ false) ⊎ HasUnknown parts
