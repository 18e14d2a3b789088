-- Which files stay where they are when a hit is put back.
use Rattle.std.specs.Prelude.{ℕ, Bool, false, not, ◌&&◌, List, map, Option, Some, None, if◌then◌else◌, bytes_eq}
use Rattle.rel_path.specs.Paths.{Path, is_among}
use Rattle.rel_path.specs.Files.{FileMap}
use Rattle.globs.specs.declared.out_set.OutSet.{OutSet}
use Rattle.globs.specs.Outputs.{takes}
use Rattle.cache_api.specs.declared.hit.HitFile.{HitFile}

-- these bytes, and no absent file
abbrev pub is_just : List ℕ → Option (List ℕ) → Bool
is_just bytes None = false
is_just bytes (Some there) = bytes_eq there bytes

abbrev pub paths_in : List HitFile → List Path
paths_in files = map (λ file. file.path) files

-- one of the first paths, and none of the second
abbrev pub is_only_in : List Path → List Path → Path → Bool
is_only_in paths kept path = is_among paths path && not (is_among kept path)

-- without the files at the first paths that are none of the second
abbrev pub without : List Path → List Path → FileMap → FileMap
without paths kept files = λ path. if is_only_in paths kept path then None else files path

-- without the owned files whose paths are none of these
abbrev pub cleared_but : OutSet → List Path → FileMap → FileMap
cleared_but outs kept files =
    λ path. if takes outs path && not (is_among kept path) then None else files path
