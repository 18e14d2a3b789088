-- The files of a hit, by its paths.
use Rattle.std.proofs.Common.{◌≡◌, ℕ, zero, suc, ◌<◌, Bool, true, false, ◌&&◌, List, [], ◌∷◌, length, map, get_or, refl, sym, ap, subst, ◌∙◌, arith}
use Rattle.std.proofs.lemmas.List.{get_or-map, length-map}
use Rattle.std.specs.List.{list_all}
use Rattle.std.specs.List.Sorted.{IsStrictlySortedBy}
use Rattle.rel_path.specs.Paths.{Path, path_cmp, is_among}
use Rattle.globs.specs.declared.out_set.OutSet.{OutSet}
use Rattle.globs.specs.Outputs.{takes}
use Rattle.globs.specs.OwnedFiles.{restored}
use Rattle.rel_path.specs.Files.{FileMap}
use Rattle.tree_dev.specs.Tree.{TreeState, Looks}
use Rattle.std.specs.Prelude.{Some, is_some}
use Rattle.cache_api.specs.declared.hit.Hit.{Hit}
use Rattle.cache_api.specs.declared.hit.HitFile.{HitFile}
use Rattle.cache_api.specs.Artifacts.{File, Artifact}
use Rattle.cache_api.proofs.SoFar.{file_there}
use Rattle.cache_api.specs.Hits.{paths_of as hit_paths, paths_ascend, owns_paths, bytes_at}
use Rattle.capture.specs.Owned.{paths_of, ListsOwned}
use Rattle.capture.proofs.Puts.{stands_so}
use Rattle.capture.proofs.Ascents.{owns_among, sorted_paths}

tests : (a b : Bool) → (a && b) ≡ true → (a ≡ true) × (b ≡ true)
tests true b e = (refl, e)
tests false b e = cc

all_at : (outs : OutSet) (paths : List Path) (i : ℕ) (d : Path) → list_all (takes outs) paths ≡ true
    → i < length paths → takes outs (get_or paths i d) ≡ true
all_at outs [] i d all lt = absurd (omega arith)
all_at outs (p ∷ ps) zero d all lt = (tests (takes outs p) (list_all (takes outs) ps) all).0
all_at outs (p ∷ ps) (suc i) d all lt =
    all_at outs ps i d (tests (takes outs p) (list_all (takes outs) ps) all).1 (omega arith)

-- the task owns each file
pub file_owned : (outs : OutSet) (hit : Hit) (items : List HitFile) (n : ℕ) (x : HitFile)
    → owns_paths outs hit ≡ true → items ≡ hit.files → n < length hit.files
    → takes outs (get_or items n x).path ≡ true
file_owned outs hit items n x owns same within =
    let many : n < length (hit_paths hit) = omega (arith, within, length-map hit.files (λ (f : HitFile). f.path)) in
    let here = get_or-map (λ (f : HitFile). f.path) hit.files n x [] within in
    ap (λ (fs : List HitFile). takes outs (get_or fs n x).path) same
    ∙ ap (takes outs) (sym here) ∙ all_at outs (hit_paths hit) n [] owns many

-- paths that ascend, and that the task owns
pub record FitsHit (outs : OutSet) (paths : List Path) : Type 0 where
  pub ascend : IsStrictlySortedBy path_cmp paths
  pub owned : (path : Path) → is_among paths path ≡ true → takes outs path ≡ true

pub hit_fits : (outs : OutSet) (hit : Hit) → paths_ascend hit ≡ true → owns_paths outs hit ≡ true
    → FitsHit outs (hit_paths hit)
hit_fits outs hit ascend owns = record {
  ascend = sorted_paths (hit_paths hit) ascend;
  owned = owns_among outs (hit_paths hit) owns;
}

-- files with the paths of a hit
pub fits_hit : (outs : OutSet) (hit : Hit) (files : List File) → map (λ f. f.0) files ≡ hit_paths hit
    → paths_ascend hit ≡ true → owns_paths outs hit ≡ true → FitsHit outs (paths_of files)
fits_hit outs hit files same ascend owns =
    subst (FitsHit outs) (sym same) (hit_fits outs hit ascend owns)

-- ---- where the files of a hit stand there already

pub looks_then : {R : Type 0} (old mid new : TreeState R) → Looks old mid → Looks mid new → Looks old new
looks_then old mid new first more = record {
  files = more.files ∙ first.files;
  rest = more.rest ∙ first.rest;
  held = more.held ∙ first.held;
  reach = more.reach ∙ first.reach;
  faults = omega (arith, first.faults, more.faults);
}

-- the bytes are those of the file with that number, and the path is its path
pub record IsOf (files : List File) (n : ℕ) (path : Path) (bytes : List ℕ) : Type 0 where
  pub ascend : IsStrictlySortedBy path_cmp (paths_of files)
  pub within : n < length files
  pub here : path ≡ (get_or files n ([], [])).0
  pub holds : bytes ≡ (get_or files n ([], [])).1

pub is_of : (hit : Hit) (shown : Artifact) (n : ℕ) (file : HitFile) (path : Path) (bytes : List ℕ)
    → map (λ f. f.0) shown.1 ≡ hit_paths hit → paths_ascend hit ≡ true → n < length hit.files
    → file ≡ get_or hit.files n file → path ≡ file.path → bytes ≡ bytes_at shown n
    → IsOf shown.1 n path bytes
is_of hit shown n file path bytes same ascend within at here holds =
    let there = file_there hit shown n file same within at in
    record {
      ascend = subst (IsStrictlySortedBy path_cmp) (sym same) (sorted_paths (hit_paths hit) ascend);
      within = there.within;
      here = here ∙ sym there.path;
      holds = holds ∙ sym there.content;
    }

-- a file was listed, and has its bytes
pub record StandsSo (listed : List Path) (files : FileMap) (path : Path) (bytes : List ℕ) : Type 0 where
  pub there : is_among listed path ≡ true
  pub so : files path ≡ Some bytes

pub stands_still : (Tells : Type 0) (outs : OutSet) (old mid : FileMap) (listed : List Path)
    (fs : List File) (n : ℕ) (path : Path) (bytes : List ℕ) → Tells → ListsOwned Tells old outs listed
    → mid ≡ old → takes outs path ≡ true → IsOf fs n path bytes → old ≡ restored outs fs old
    → StandsSo listed mid path bytes
stands_still Tells outs old mid listed fs n path bytes told lists same owned file is =
    let so : old path ≡ Some bytes =
    ap old file.here
    ∙ stands_so outs fs old n ([], []) file.ascend file.within (ap (takes outs) (sym file.here) ∙ owned) is
    ∙ ap Some (sym file.holds) in
    record {
      there = lists.exact told path ∙ ap (λ o. is_some o && takes outs path) so ∙ owned;
      so = ap (λ m. m path) same ∙ so;
    }
