-- A log and files, with nothing behind them.
use Rattle.std.proofs.Common.{◌≡◌, ◌<◌, ℕ, List, [], ◌∷◌, length, Some, None, Err, refl, ◌∙◌, ap, arith, length-append}
use Rattle.codes.specs.Codes.{Taken, read_str, read_both, whole_of}
use Rattle.cache_api.specs.Artifacts.{Artifact}
use Rattle.cache_api.specs.Reading.{read_files}
use Rattle.artifact_reader.specs.declared.part.Part.{Part}
use Rattle.artifact_reader.specs.declared.stop.Stop.{Stop}
use Rattle.artifact_reader.specs.declared.stop.Stop.TheVariants.{NoArtifact, Unknown, OutOfMemory}
use Rattle.artifact_reader.specs.Parts.{shown, spans_of, span_of, at_span}
use Rattle.artifact_reader.specs.Cursors.{AreOn, AreOver, IsTaken}
use Rattle.artifact_reader.specs.Reads.{IsStop, IsValue}
use Rattle.artifact_reader.specs.Artifacts.{IsHitOf}
use Rattle.artifact_reader.proofs.SoFar.{span_len, lies}

none_whole : (t : Taken Artifact) → t ≡ None → whole_of t ≡ None
unfolding whole_of
none_whole t e = ap whole_of e

pub stops : (parts : List Part) (e : Stop) → IsStop (read_both read_str read_files) parts e → IsHitOf parts (Err e)
stops parts NoArtifact is = λ low text on. none_whole _ (is low text on)
stops parts Unknown is = is
stops parts OutOfMemory is = tt

whole_with : (a : Artifact) (rest : List ℕ) → 0 < length rest → whole_of (Some (a, rest)) ≡ None
unfolding whole_of
whole_with a [] some = absurd (omega (arith, some))
whole_with a (x ∷ rest) some = refl

whole_alone : (a : Artifact) (rest : List ℕ) → rest ≡ [] → whole_of (Some (a, rest)) ≡ Some a
unfolding whole_of
whole_alone a rest none = ap (λ (l : List ℕ). whole_of (Some (a, l))) none

pub more_behind : (value : List ℕ → Artifact) (parts left : List Part) (n : ℕ) (part : Part) (rest : List Part)
    → IsValue value (read_both read_str read_files) parts left → IsTaken n left part rest
    → (low : ℕ) (text : List ℕ) → AreOn low text parts → whole_of (read_both read_str read_files (shown text (spans_of parts))) ≡ None
more_behind value parts left n part rest v t low text on =
    let at = v.goes.on low text on in
    let shows = t.shows low text at in
    let len = span_len low text (span_of part) (lies part (t.of_text low text at)) in
    ap whole_of (v.is low text on) ∙ whole_with (value text) (shown text (spans_of left)) (omega (arith, ap length shows, length-append (at_span text (span_of part)) (shown text (spans_of rest)), len, t.some))

pub nothing_behind : (value : List ℕ → Artifact) (parts left : List Part) → IsValue value (read_both read_str read_files) parts left → AreOver left
    → (low : ℕ) (text : List ℕ) → AreOn low text parts → whole_of (read_both read_str read_files (shown text (spans_of parts))) ≡ Some (value text)
nothing_behind value parts left v over low text on = ap whole_of (v.is low text on) ∙ whole_alone (value text) (shown text (spans_of left)) (over text)
