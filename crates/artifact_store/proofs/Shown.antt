-- What stands at places of a text, and of a longer one.
use Rattle.std.proofs.Common.{◌≡◌, ℕ, zero, suc, ◌+◌, ◌<◌, ◌≤◌, List, [], ◌∷◌, ◌++◌, length, map, get_or, take, drop, refl, sym, ◌∙◌, ap, arith, append_assoc, length-append, length-drop}
use Rattle.std.proofs.lemmas.List.{append-nil, get_or-map, length-map, take_more, take-append-le, drop-append-le}
use Rattle.codes.specs.Codes.{Each}
use Rattle.rel_path.specs.declared.span.Span.{Span}
use Rattle.cache_api.specs.declared.hit.Hit.{Hit}
use Rattle.cache_api.specs.declared.hit.HitFile.{HitFile}
use Rattle.cache_api.specs.Artifacts.{File}
use Rattle.cache_api.specs.Hits.{bytes_at}
use Rattle.record_log.specs.Seats.{IsWithin}
use Rattle.artifact_reader.specs.Parts.{at_span, shown, shown_in}
use Rattle.pair_reader.specs.Answers.{AllWithin, HitIsWithin}

pub each_at : {A : Type 0} (P : A → Type 0) (xs : List A) (i : ℕ) (d : A) → Each P xs → i < length xs
    → P (get_or xs i d)
each_at P [] i d all lt = absurd (omega arith)
each_at P (x ∷ xs) zero d all lt = all.0
each_at P (x ∷ xs) (suc i) d all lt = each_at P xs i d all.1 (omega (arith, lt))

shown-append : (text : List ℕ) (xs ys : List Span) → shown text (xs ++ ys) ≡ shown text xs ++ shown text ys
shown-append text [] ys = refl
shown-append text (x ∷ xs) ys =
    ap (λ (l : List ℕ). at_span text x ++ l) (shown-append text xs ys)
    ∙ sym (append_assoc (at_span text x) (shown text xs) (shown text ys))

-- one place more
pub shown_more : (text : List ℕ) (spans : List Span) (i : ℕ) (d : Span) → i < length spans
    → shown text (take (i + 1) spans) ≡ shown text (take i spans) ++ at_span text (get_or spans i d)
shown_more text spans i d lt =
    ap (shown text) (take_more spans i d lt)
    ∙ shown-append text (take i spans) (get_or spans i d ∷ [])
    ∙ ap (λ (l : List ℕ). shown text (take i spans) ++ l) (append-nil (at_span text (get_or spans i d)))

-- ---- a text that goes on

module _ (text more : List ℕ) where
  pub within_more : (at n : ℕ) → IsWithin text at n → IsWithin (text ++ more) at n
  within_more at n x = record {
    behind = x.behind;
    inside = omega (arith, x.inside, length-append text more);
  }

  all_more : (spans : List Span) → AllWithin text spans → AllWithin (text ++ more) spans
  all_more [] all = tt
  all_more (s ∷ spans) all = (within_more s.at s.len all.0, all_more spans all.1)

  each_more : (files : List HitFile) → Each (λ (f : HitFile). AllWithin text f.spans) files
      → Each (λ (f : HitFile). AllWithin (text ++ more) f.spans) files
  each_more [] all = tt
  each_more (f ∷ files) all = (all_more f.spans all.0, each_more files all.1)

  pub hit_more : (hit : Hit) → HitIsWithin text hit → HitIsWithin (text ++ more) hit
  hit_more hit x = record { log = all_more hit.log x.log; files = each_more hit.files x.files }

  at_more : (at n : ℕ) → at + n ≤ length text → take n (drop at (text ++ more)) ≡ take n (drop at text)
  at_more at n le =
      ap (take n) (drop-append-le at text more (omega (arith, le)))
      ∙ take-append-le n (drop at text) more (omega (arith, le, length-drop at text))

  spans_same : (spans : List Span) → AllWithin text spans → shown (text ++ more) spans ≡ shown text spans
  spans_same [] all = refl
  spans_same (s ∷ spans) all =
      λ i. at_more s.at s.len all.0.inside i ++ spans_same spans all.1 i

  files_same : (files : List HitFile) → Each (λ (f : HitFile). AllWithin text f.spans) files
      → map {B = File} (λ (f : HitFile). (f.path, shown (text ++ more) f.spans)) files
      ≡ map {B = File} (λ (f : HitFile). (f.path, shown text f.spans)) files
  files_same [] all = refl
  files_same (f ∷ files) all =
      λ i. (f.path, spans_same f.spans all.0 i) ∷ files_same files all.1 i

  pub hit_same : (hit : Hit) → HitIsWithin text hit → shown_in (text ++ more) hit ≡ shown_in text hit
  hit_same hit x = λ i. (spans_same hit.log x.log i, files_same hit.files x.files i)

-- ---- one file

pub file_shown : (text : List ℕ) (hit : Hit) (n : ℕ) (file : HitFile) → n < length hit.files
    → file ≡ get_or hit.files n file → bytes_at (shown_in text hit) n ≡ shown text file.spans
file_shown text hit n file lt is =
    let view : HitFile → File = λ f. (f.path, shown text f.spans) in
    let files = map view hit.files in
    let many : length files ≡ length hit.files = length-map hit.files view in
    get_or-map (λ (f : File). f.1) files n (view file) [] (omega (arith, lt, many))
    ∙ ap (λ (f : File). f.1) (get_or-map view hit.files n file (view file) lt ∙ ap view (sym is))
