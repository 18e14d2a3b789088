-- Where a stored artifact stands: its paths, how many places it takes, and what is said of artifacts by their paths alone.
use Rattle.std.specs.Prelude.{◌≡◌, ℕ, ◌+◌, Bool, true, ◌&&◌, List, [], ◌∷◌, map, length, sum_by, slice_index_or}
use Rattle.std.specs.Ordering.{is_lt}
use Rattle.std.specs.List.{list_all}
use Rattle.std.proofs.Common.{refl, ap, ◌∙◌}
use Rattle.rel_path.specs.Paths.{Path, path_cmp}
use Rattle.globs.specs.declared.out_set.OutSet.{OutSet}
use Rattle.globs.specs.Outputs.{takes}
use Rattle.globs.specs.OwnedFiles.{owns_all}
use Rattle.cache_api.specs.declared.hit.Hit.{Hit}
use Rattle.cache_api.specs.Artifacts.{File, Artifact, ascends_from, ascends}

-- ---- paths

abbrev pub paths_of : Hit → List Path
paths_of hit = map (λ file. file.path) hit.files

-- each path stands before the next one, component by component, and that path before the first
abbrev pub each_before : Path → List Path → Bool
each_before last [] = true
each_before last (path ∷ paths) = is_lt (path_cmp last path) && each_before path paths

-- no path is the root, and each stands before the next one
abbrev pub paths_ascend : Hit → Bool
paths_ascend hit = each_before [] (paths_of hit)

-- the task owns each of the paths
abbrev pub owns_paths : OutSet → Hit → Bool
owns_paths outs hit = list_all (takes outs) (paths_of hit)

-- ---- places

-- how many places the file with that number takes
abbrev pub file_spans : Hit → ℕ → ℕ
file_spans hit n = length (slice_index_or (map (λ file. file.spans) hit.files) n [])

-- how many places the log and all files take
abbrev pub span_count : Hit → ℕ
span_count hit = length hit.log + sum_by (λ file. length file.spans) hit.files

-- ---- what stands there

-- the bytes of the file with that number
abbrev pub bytes_at : Artifact → ℕ → List ℕ
bytes_at a n = slice_index_or (map (λ file. file.1) a.1) n []

-- ---- files with the paths of a hit

each_before_is : (last : Path) (files : List File)
    → ascends_from last files ≡ each_before last (map (λ f. f.0) files)
each_before_is last [] = refl
each_before_is last (file ∷ files) =
    ap (λ b. is_lt (path_cmp last file.0) && b) (each_before_is file.0 files)

-- they ascend where the hit's paths do
pub ascends_is : (files : List File) (hit : Hit) → map (λ f. f.0) files ≡ paths_of hit
    → ascends files ≡ paths_ascend hit
ascends_is files hit same = each_before_is [] files ∙ ap (each_before []) same

owns_each_is : (outs : OutSet) (files : List File)
    → owns_all outs files ≡ list_all (takes outs) (map (λ f. f.0) files)
owns_each_is outs [] = refl
owns_each_is outs (file ∷ files) = ap (λ b. takes outs file.0 && b) (owns_each_is outs files)

-- they are owned where the hit's paths are
pub owns_is : (outs : OutSet) (files : List File) (hit : Hit)
    → map (λ f. f.0) files ≡ paths_of hit → owns_all outs files ≡ owns_paths outs hit
owns_is outs files hit same = owns_each_is outs files ∙ ap (list_all (takes outs)) same
