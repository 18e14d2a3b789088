-- The paths of what a hit shows.
use Rattle.std.proofs.Common.{◌≡◌, ℕ, List, [], ◌∷◌, map, refl, ap}
use Rattle.rel_path.specs.Paths.{Path}
use Rattle.cache_api.specs.declared.hit.Hit.{Hit}
use Rattle.cache_api.specs.declared.hit.HitFile.{HitFile}
use Rattle.cache_api.specs.Artifacts.{File}
use Rattle.cache_api.specs.Hits.{paths_of}
use Rattle.artifact_reader.specs.Parts.{shown, shown_in}

paths_are : (text : List ℕ) (files : List HitFile)
    → map (λ (f : File). f.0) (map {B = File} (λ (f : HitFile). (f.path, shown text f.spans)) files)
    ≡ map (λ (f : HitFile). f.path) files
paths_are text [] = refl
paths_are text (f ∷ files) = ap (λ (l : List Path). f.path ∷ l) (paths_are text files)

-- they are those of the hit
pub shown_paths : (text : List ℕ) (hit : Hit)
    → map (λ (f : File). f.0) (shown_in text hit).1 ≡ paths_of hit
shown_paths text hit = paths_are text hit.files
