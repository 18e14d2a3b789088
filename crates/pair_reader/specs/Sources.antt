-- A record as bytes, and where it stands.
use Rattle.std.specs.Prelude.{◌≡◌, ◌<◌, ◌^◌, ℕ, List, ◌++◌, length}
use Rattle.pair_reader.specs.declared.parse.Source.{Source}
use Rattle.pair_reader.specs.Standing.{StandsAt}

-- it stands in a text, which has fewer bytes than a `u64` counts
pub record SourceStands (text : List ℕ) (source : Source) : Type 0 where
  pub stands : StandsAt text source.at source.bytes.now
  pub short : length text < 2 ^ 64

-- it ends with these bytes
abbrev pub EndsWith : Source → List ℕ → Type 0
EndsWith source rest = (front : List ℕ) × (source.bytes.now ≡ front ++ rest)
