-- A log and files are an artifact where the paths ascend.
use Rattle.std.proofs.Common.{◌≡◌, ℕ, Bool, true, false, cond, List, [], ◌∷◌, map, Option, Some, None, refl, ◌∙◌, ap}
use Rattle.codes.specs.Codes.{read_str, read_both, whole_of}
use Rattle.cache_api.specs.declared.hit.Hit.{Hit}
use Rattle.cache_api.specs.declared.hit.HitFile.{HitFile}
use Rattle.cache_api.specs.Artifacts.{Artifact, ascends}
use Rattle.cache_api.specs.Hits.{paths_ascend, ascends_is}
use Rattle.cache_api.specs.Reading.{read_files, artifact_in, if_ascending}
use Rattle.artifact_reader.specs.Parts.{shown_in}
use Rattle.artifact_reader.specs.Reads.{files_in}

paths_are : (text : List ℕ) (files : List HitFile) → map (λ file. file.0) (files_in text files) ≡ map (λ file. file.path) files
paths_are text [] = refl
paths_are text (file ∷ files) = ap (λ l. file.path ∷ l) (paths_are text files)

ascent : (text : List ℕ) (hit : Hit) → ascends (shown_in text hit).1 ≡ paths_ascend hit
ascent text hit = ascends_is (shown_in text hit).1 hit (paths_are text hit.files)

in_whole : (bytes : List ℕ) (o : Option Artifact) → whole_of (read_both read_str read_files bytes) ≡ o → artifact_in bytes ≡ if_ascending o
unfolding artifact_in
in_whole bytes o is = ap if_ascending is

pub is_artifact : (bytes text : List ℕ) (hit : Hit) → whole_of (read_both read_str read_files bytes) ≡ Some (shown_in text hit) → paths_ascend hit ≡ true → artifact_in bytes ≡ Some (shown_in text hit)
is_artifact bytes text hit is up = in_whole bytes _ is ∙ ap (λ (b : Bool). cond b (Some (shown_in text hit)) None) (ascent text hit ∙ up)

pub is_none : (bytes text : List ℕ) (hit : Hit) → whole_of (read_both read_str read_files bytes) ≡ Some (shown_in text hit) → paths_ascend hit ≡ false → artifact_in bytes ≡ None
is_none bytes text hit is down = in_whole bytes _ is ∙ ap (λ (b : Bool). cond b (Some (shown_in text hit)) None) (ascent text hit ∙ down)

pub none_there : (bytes : List ℕ) → whole_of (read_both read_str read_files bytes) ≡ None → artifact_in bytes ≡ None
none_there bytes none = in_whole bytes None none
