-- One value read behind another.
use Rattle.std.proofs.Common.{◌≡◌, ℕ, List, Some, None, arith}
use Rattle.codes.specs.Codes.{Taken}
use Rattle.rel_path.specs.declared.span.Span.{Span}
use Rattle.artifact_reader.specs.declared.part.Part.{Part}
use Rattle.artifact_reader.specs.declared.stop.Stop.{Stop}
use Rattle.artifact_reader.specs.declared.stop.Stop.TheVariants.{NoArtifact, Unknown, OutOfMemory}
use Rattle.artifact_reader.specs.Cursors.{GoesOn}
use Rattle.artifact_reader.specs.Reads.{IsStop, IsValue, ArePlaces}
use Rattle.artifact_reader.proofs.SoFar.{goes_then}

module _ {A B : Type 0} (r : List ℕ → Taken A) (s : List ℕ → Taken B) (parts : List Part) where
  -- where the first value stops it
  pub stops_first : (e : Stop) → IsStop r parts e → ((bytes : List ℕ) → r bytes ≡ None → s bytes ≡ None) → IsStop s parts e
  stops_first NoArtifact is none = λ low text on. none _ (is low text on)
  stops_first Unknown is none = is
  stops_first OutOfMemory is none = tt

module _ {A B C : Type 0} (x : List ℕ → A) (r : List ℕ → Taken A) (q : List ℕ → Taken B) (s : List ℕ → Taken C) (parts mid : List Part) (first : IsValue x r parts mid) where
  -- where the second one does
  pub stops_second : (e : Stop) → IsStop q mid e → ((text bytes rest : List ℕ) → r bytes ≡ Some (x text, rest) → q rest ≡ None → s bytes ≡ None) → IsStop s parts e
  stops_second NoArtifact is none = λ low text on. none text _ _ (first.is low text on) (is low text (first.goes.on low text on))
  stops_second Unknown is none = first.goes.unknown is
  stops_second OutOfMemory is none = tt

  pub both_read : (y : List ℕ → B) (left : List Part) (z : List ℕ → C) → IsValue y q mid left
      → ((text bytes rest more : List ℕ) → r bytes ≡ Some (x text, rest) → q rest ≡ Some (y text, more) → s bytes ≡ Some (z text, more)) → IsValue z s parts left
  both_read y left z is some = record { goes = goes_then parts mid left first.goes is.goes; is = λ low text on. some text _ _ _ (first.is low text on) (is.is low text (first.goes.on low text on)) }

-- places behind what was passed
pub places_behind : (parts mid : List Part) (spans : List Span) (left : List Part) → GoesOn parts mid → ArePlaces mid spans left → ArePlaces parts spans left
places_behind parts mid spans left goes p = record { lie = λ low text on. p.lie low text (goes.on low text on); few = omega (arith, goes.few, p.few) }
