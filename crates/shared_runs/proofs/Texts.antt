-- Places in the text of a file's frames.
use Rattle.std.proofs.Common.{◌≡◌, List, [], ◌++◌, ℕ, ap}
use Rattle.rel_path.specs.declared.span.Span.{Span}
use Rattle.cache_api.specs.declared.hit.Hit.{Hit}
use Rattle.artifact_reader.specs.Parts.{shown}
use Rattle.cache_api.specs.Artifacts.{Artifact}
use Rattle.pair_reader.specs.Answers.{AllWithin, HitIsWithin}
use Rattle.artifact_store.proofs.Shown.{hit_more, hit_same}

-- a hit with these places alone
abbrev at_places : List Span → Hit
at_places spans = record { side = 0; log = spans; files = [] }

at_within : (text : List ℕ) (spans : List Span) → AllWithin text spans
    → HitIsWithin text (at_places spans)
at_within text spans all = record { log = all; files = tt }

pub spans_within : (text rest : List ℕ) (spans : List Span) → AllWithin text spans
    → AllWithin (text ++ rest) spans
spans_within text rest spans all = (hit_more text rest (at_places spans)
    (at_within text spans all)).log

pub spans_shown : (text rest : List ℕ) (spans : List Span) → AllWithin text spans
    → shown (text ++ rest) spans ≡ shown text spans
spans_shown text rest spans all =
    ap (λ (a : Artifact). a.0) (hit_same text rest (at_places spans) (at_within text spans all))
