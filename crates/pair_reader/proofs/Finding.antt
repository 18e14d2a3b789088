-- The artifact that was found among the parts of a value, and what a pair gives.
use Rattle.std.proofs.Common.{◌≡◌, ℕ, ◌+◌, ◌≤◌, ◌<◌, ◌^◌, Bool, true, false, cond, List, [], ◌∷◌, length, map, Option, Some, None, refl, sym, ◌∙◌, ap, subst, arith}
use Rattle.std.specs.Prelude.{bytes_eq, max, IfSome, IsTrue}
use Rattle.std.specs.List.{list_all}
use Rattle.std.proofs.lemmas.List.{length-map}
use Rattle.std.proofs.lemmas.List.Folds.{list_all-map}
use Rattle.codes.specs.Codes.{Each}
use Rattle.rel_path.specs.Paths.{Path}
use Rattle.rel_path.specs.declared.span.Span.{Span}
use Rattle.globs.specs.declared.out_set.OutSet.{OutSet}
use Rattle.globs.specs.Outputs.{takes}
use Rattle.globs.specs.OwnedFiles.{owns_all}
use Rattle.cache_api.specs.declared.hit.Hit.{Hit}
use Rattle.cache_api.specs.declared.hit.HitFile.{HitFile}
use Rattle.cache_api.specs.Artifacts.{File, Artifact}
use Rattle.cache_api.specs.Found.{if_owned, given}
use Rattle.cache_api.specs.Hits.{span_count, paths_ascend, owns_paths, owns_is}
use Rattle.cache_api.specs.Pairs.{Pair}
use Rattle.cache_api.specs.Reading.{artifact_in}
use Rattle.artifact_reader.specs.declared.part.Part.{Part}
use Rattle.artifact_reader.specs.declared.artifact.Reading.{Reading}
use Rattle.artifact_reader.specs.declared.artifact.Reading.TheVariants as reading
use Rattle.artifact_reader.specs.Parts.{shown, shown_in}
use Rattle.artifact_reader.specs.Reads.{AllIn, EachIn}
use Rattle.artifact_reader.specs.Artifacts.{IsReadingOf, HitLies, OnHit}
use Rattle.artifact_reader.specs.Cursors.{AreOn}
use Rattle.record_log.specs.Kinds.{Entry}
use Rattle.record_log.specs.Frames.{text_of}
use Rattle.blob_pool.specs.Contents.{contents_of}
use Rattle.pair_reader.specs.declared.piece.PieceAt.{PieceAt}
use Rattle.pair_reader.specs.Standing.{bytes_of}
use Rattle.pair_reader.specs.Answers.{AllWithin}
use Rattle.pair_reader.specs.Frames.{file_count}
use Rattle.pair_reader.specs.Parts.{first, AreShown, IsFound, IsHitOf}

-- ---- among parts

within : (text : List ℕ) (spans : List Span) → AllIn first text spans → AllWithin text spans
within text [] lie = tt
within text (span ∷ spans) lie = (
  record { behind = omega (arith, lie.0.from); inside = lie.0.to },
  within text spans lie.1,
)

each_within : (text : List ℕ) (files : List HitFile) → EachIn first text files
    → Each (λ (file : HitFile). AllWithin text file.spans) files
each_within text [] lie = tt
each_within text (file ∷ files) lie =
    (within text file.spans lie.0, each_within text files lie.1)

pub found_hit : (text bytes : List ℕ) (parts : List Part) (hit : Hit) → length text < 2 ^ 64
    → AreShown text parts bytes → IsReadingOf parts (reading.Hit hit)
    → ((low : ℕ) (all : List ℕ) → AreOn low all parts → HitLies low all hit)
    → IsFound text bytes (Some hit)
found_hit text bytes parts hit short shows read lie =
    let on : AreOn first text parts = (short, shows.0) in
    let lies = lie first text on in (
      ap artifact_in (sym shows.1) ∙ read first text on,
      record {
        log = within text hit.log lies.log;
        files = each_within text hit.files lies.files;
      },
    )

pub found_none : (text bytes : List ℕ) (parts : List Part) → length text < 2 ^ 64
    → AreShown text parts bytes → IsReadingOf parts reading.NoArtifact → IsFound text bytes None
found_none text bytes parts short shows read =
    ap artifact_in (sym shows.1) ∙ read first text (short, shows.0)

-- ---- what a pair gives

-- it has another key
pub gives_other : (outs : OutSet) (key k v : List ℕ) (pair : Pair) → pair ≡ (k, v)
    → bytes_eq k key ≡ false → None ≡ given artifact_in key outs pair
gives_other outs key k v pair is other =
    sym (
    ap (given artifact_in key outs) is
    ∙ ap (λ (b : Bool). cond b (if_owned outs (artifact_in v)) None) other
    )

gives_same : (outs : OutSet) (key k v : List ℕ) (pair : Pair) → pair ≡ (k, v)
    → bytes_eq k key ≡ true → given artifact_in key outs pair ≡ if_owned outs (artifact_in v)
gives_same outs key k v pair is same =
    ap (given artifact_in key outs) is
    ∙ ap (λ (b : Bool). cond b (if_owned outs (artifact_in v)) None) same

-- its value is no artifact
pub gives_none : (outs : OutSet) (key k v : List ℕ) (pair : Pair) → pair ≡ (k, v)
    → bytes_eq k key ≡ true → artifact_in v ≡ None → None ≡ given artifact_in key outs pair
gives_none outs key k v pair is same none =
    sym (gives_same outs key k v pair is same ∙ ap (if_owned outs) none)

paths_are : (text : List ℕ) (files : List HitFile)
    → map (λ (f : File). f.0) (map (λ (file : HitFile). (file.path, shown text file.spans)) files)
    ≡ map (λ (file : HitFile). file.path) files
paths_are text [] = refl
paths_are text (file ∷ files) = ap (λ (l : List Path). file.path ∷ l) (paths_are text files)

owned_by : (b : Bool) (outs : OutSet) (a : Artifact) → owns_all outs a.1 ≡ b
    → if_owned outs (Some a) ≡ cond b (Some a) None
owned_by b outs a is = ap (λ (o : Bool). cond o (Some a) None) is

-- whether the task owns the files of a hit, by what was asked of each
pub owns_hit : (outs : OutSet) (hit : Hit)
    → owns_paths outs hit ≡ list_all (λ (file : HitFile). takes outs file.path) hit.files
owns_hit outs hit = list_all-map (takes outs) (λ (file : HitFile). file.path) hit.files

-- its artifact, where the task owns the files
pub gives_by : (b : Bool) (text : List ℕ) (hit : Hit) (outs : OutSet) (key k v : List ℕ)
    (pair : Pair) → pair ≡ (k, v) → bytes_eq k key ≡ true
    → artifact_in v ≡ Some (shown_in text hit)
    → list_all (λ (file : HitFile). takes outs file.path) hit.files ≡ b
    → cond b (Some (shown_in text hit)) None ≡ given artifact_in key outs pair
gives_by b text hit outs key k v pair is same read owns =
    let a = shown_in text hit in
    let whose = owns_is outs a.1 hit (paths_are text hit.files) ∙ owns_hit outs hit ∙ owns in
    sym (
    gives_same outs key k v pair is same
    ∙ ap (if_owned outs) read
    ∙ owned_by b outs a whose
    )

pub hit_files : (text : List ℕ) (hit : Hit) (v w : List ℕ) → w ≡ v
    → artifact_in v ≡ Some (shown_in text hit)
    → length hit.files ≡ file_count (artifact_in w)
hit_files text hit v w same read =
    sym (
    ap (λ (l : List ℕ). file_count (artifact_in l)) same
    ∙ ap file_count read
    ∙ length-map hit.files (λ (file : HitFile). (file.path, shown text file.spans))
    )

-- ---- by what was answered

pub found_as_hit : (text bytes : List ℕ) (parts : List Part) (r : Reading) (hit : Hit)
    → r ≡ reading.Hit hit → length text < 2 ^ 64 → AreShown text parts bytes → IsReadingOf parts r
    → OnHit r (λ h. (low : ℕ) (all : List ℕ) → AreOn low all parts → HitLies low all h)
    → IsFound text bytes (Some hit)
found_as_hit text bytes parts r hit is short shows read lie =
    found_hit text bytes parts hit short shows (subst (IsReadingOf parts) is read)
    (subst (λ (x : Reading). OnHit x (λ h. (low : ℕ) (all : List ℕ) → AreOn low all parts → HitLies low all h)) is lie)

pub found_as_none : (text bytes : List ℕ) (parts : List Part) (r : Reading)
    → r ≡ reading.NoArtifact → length text < 2 ^ 64 → AreShown text parts bytes
    → IsReadingOf parts r → IsFound text bytes None
found_as_none text bytes parts r is short shows read =
    found_none text bytes parts short shows (subst (IsReadingOf parts) is read)

-- what was found in a log that was read since
pub found_before : (fs gs ks ls : List Entry) (xs ys : List PieceAt) (o r : Option Hit) → gs ≡ fs
    → ls ≡ ks → ys ≡ xs → r ≡ o → IsFound (text_of gs) (bytes_of (contents_of ls) ys) r
    → IsFound (text_of fs) (bytes_of (contents_of ks) xs) o
found_before fs gs ks ls xs ys o r frames known pieces is found =
    let one = subst (IsFound (text_of gs) (bytes_of (contents_of ls) ys)) is found in
    let two = subst (λ (l : List PieceAt). IsFound (text_of gs) (bytes_of (contents_of ls) l) o) pieces one in
    let three = subst (λ (l : List Entry). IsFound (text_of gs) (bytes_of (contents_of l) xs) o) known two in
    subst (λ (l : List Entry). IsFound (text_of l) (bytes_of (contents_of ks) xs) o) frames three

-- what is said of a hit that was found
on_found : (count : ℕ) (r : Option Hit) (hit : Hit) → r ≡ Some hit → IfSome r (IsHitOf count)
    → IsHitOf count hit
on_found count r hit is all = subst (λ (o : Option Hit). IfSome o (IsHitOf count)) is all

pub hit_ascends : (count : ℕ) (r : Option Hit) (hit : Hit) → r ≡ Some hit
    → IfSome r (IsHitOf count) → IsTrue (paths_ascend hit)
hit_ascends count r hit is all = (on_found count r hit is all).ascend

pub hit_few : (xs ys : List PieceAt) (r : Option Hit) (hit : Hit) → ys ≡ xs → r ≡ Some hit
    → IfSome r (IsHitOf (length ys)) → span_count hit ≤ max 1 (length xs) + length hit.files
hit_few xs ys r hit same is all =
    omega (arith, ap length same, (on_found (length ys) r hit is all).few)

-- whether the task owns the files, as it was asked
pub whose : (outs : OutSet) (hit : Hit) (files : List HitFile) (b : Bool) → files ≡ hit.files
    → b ≡ list_all (λ (file : HitFile). takes outs file.path) files
    → list_all (λ (file : HitFile). takes outs file.path) hit.files ≡ b
whose outs hit files b same asked =
    ap (list_all (λ (file : HitFile). takes outs file.path)) (sym same) ∙ sym asked
