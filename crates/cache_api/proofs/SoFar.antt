-- The first files of a hit, and one more.
use Rattle.std.proofs.Common.{◌≡◌, ℕ, suc, ◌+◌, ◌<◌, ◌≤◌, List, [], ◌∷◌, ◌++◌, length, map, take, get_or, sym, ◌∙◌, ap, arith}
use Rattle.std.specs.Prelude.{sum_by}
use Rattle.std.proofs.Math.Seq.{take-suc}
use Rattle.std.proofs.lemmas.List.{get_or-map, map_more, length-map}
use Rattle.std.proofs.lemmas.List.Sums.{sum_by_more, sum_by-take-le}
use Rattle.rel_path.specs.Paths.{Path}
use Rattle.cache_api.specs.declared.hit.Hit.{Hit}
use Rattle.cache_api.specs.declared.hit.HitFile.{HitFile}
use Rattle.cache_api.specs.Artifacts.{File, Artifact}
use Rattle.cache_api.specs.Hits.{paths_of, file_spans, bytes_at}

-- ---- places

pub spans_more : (hit : Hit) (n : ℕ) → n < length hit.files
    → sum_by (λ file. length file.spans) (take (n + 1) hit.files)
    ≡ sum_by (λ file. length file.spans) (take n hit.files) + file_spans hit n
spans_more hit n within =
    let none : HitFile = record { path = []; spans = [] } in
    let here = get_or-map (λ (file : HitFile). file.spans) hit.files n none [] within in
    sum_by_more (λ (file : HitFile). length file.spans) hit.files n none within
    ∙ ap (λ spans. sum_by (λ (file : HitFile). length file.spans) (take n hit.files) + length spans) (sym here)

pub spans_within : (hit : Hit) (n : ℕ) → n < length hit.files
    → sum_by (λ file. length file.spans) (take n hit.files) + file_spans hit n
    ≤ sum_by (λ file. length file.spans) hit.files
spans_within hit n within =
    omega (arith, spans_more hit n within, sum_by-take-le (λ (file : HitFile). length file.spans) hit.files (n + 1))

-- ---- paths

pub paths_more : (hit : Hit) (n : ℕ) (x : HitFile) → n < length hit.files → x ≡ get_or hit.files n x
    → map (λ file. file.path) (take (n + 1) hit.files)
    ≡ map (λ file. file.path) (take n hit.files) ++ x.path ∷ []
paths_more hit n x within at =
    map_more (λ (file : HitFile). file.path) hit.files n x within
    ∙ ap (λ (file : HitFile). map (λ (f : HitFile). f.path) (take n hit.files) ++ file.path ∷ []) (sym at)

-- ---- files

-- the file of an artifact that stands at the n-th place of a hit with its paths
pub record IsThere (a : Artifact) (n : ℕ) (x : HitFile) (none : File) : Type 0 where
  pub within : n < length a.1
  pub path : (get_or a.1 n none).0 ≡ x.path
  pub content : (get_or a.1 n none).1 ≡ bytes_at a n

pub file_there : (hit : Hit) (a : Artifact) (n : ℕ) (x : HitFile)
    → map (λ file. file.0) a.1 ≡ paths_of hit → n < length hit.files → x ≡ get_or hit.files n x
    → IsThere a n x ([], [])
file_there hit a n x same within at =
    let none : File = ([], []) in
    let many : length a.1 ≡ length hit.files =
    sym (length-map a.1 (λ (f : File). f.0)) ∙ ap length same ∙ length-map hit.files (λ (f : HitFile). f.path) in
    let there : n < length a.1 = omega (arith, within, many) in
    record {
      within = there;
      path = sym (get_or-map (λ (f : File). f.0) a.1 n none [] there)
          ∙ ap (λ (ps : List Path). get_or ps n []) same
          ∙ get_or-map (λ (f : HitFile). f.path) hit.files n x [] within
          ∙ ap (λ (f : HitFile). f.path) (sym at);
      content = sym (get_or-map (λ (f : File). f.1) a.1 n none [] there);
    }

-- one file more
pub files_more : (hit : Hit) (a : Artifact) (n : ℕ) (x : HitFile) (bytes : List ℕ)
    → map (λ file. file.0) a.1 ≡ paths_of hit → n < length hit.files → x ≡ get_or hit.files n x
    → bytes ≡ bytes_at a n → take (n + 1) a.1 ≡ take n a.1 ++ (x.path, bytes) ∷ []
files_more hit a n x bytes same within at is =
    let there = file_there hit a n x same within at in
    let next : n + 1 ≡ suc n = omega arith in
    let content = there.content ∙ sym is in
    ap (λ k. take k a.1) next ∙ take-suc a.1 n ([], []) there.within
    ∙ (λ i. take n a.1 ++ (there.path i, content i) ∷ [])
