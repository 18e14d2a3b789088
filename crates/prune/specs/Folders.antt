-- Where the files of a pruned repository are put (Turborepo docs, "prune": `out`, and with `--docker` the folders `full` and `json` in it).
use Rattle.std.specs.Prelude.{ℕ, Bool, true, false, ◌&&◌, not, List, [], ◌∷◌, Option, None, codes, find, option_and_then, if◌then◌else◌}
use Rattle.std.specs.Ordering.{is_lt}
use Rattle.rel_path.specs.Paths.{Path, path_cmp, path_eq, strip}
use Rattle.rel_path.specs.Files.{FileMap, over}
use Rattle.workspaces.specs.Space.{lies_below}
use Rattle.collect.specs.Refusals.{is_large}
use Rattle.repository.specs.Reading.{Contents}
use Rattle.pruned_files.specs.Pruned.{Pruning, pruned_files, lock_path}
use Rattle.pruned_files.specs.Layers.{manifest_layer}

abbrev pub out_name : List ℕ
out_name = codes "out"

abbrev pub out_folder : Path
out_folder = out_name ∷ []

-- all files, and those that an installation needs, each in a folder of its own
abbrev pub full_folder : Path
full_folder = out_name ∷ codes "full" ∷ []

abbrev pub json_folder : Path
json_folder = out_name ∷ codes "json" ∷ []

-- the folder of all files
abbrev pub folder_of_all : Bool → Path
folder_of_all docker = if docker then full_folder else out_folder

-- the least walked file below `out`
abbrev pub first_below_out : List Path → Option Path
first_below_out walk = find (λ path. lies_below path out_folder) walk

-- ---- what stands where afterwards

-- the files, below the folder
abbrev pub moved_to : Path → FileMap → FileMap
moved_to folder files path = option_and_then files (strip folder path)

-- all files of the pruned repository were written
abbrev pub written : Bool → Contents → Pruning → FileMap → FileMap
written false contents p files = over files (moved_to out_folder (pruned_files p files))
written true contents p files =
    over (over files (moved_to full_folder (pruned_files p files))) (moved_to json_folder (manifest_layer contents p (pruned_files p files)))

-- those in front of a path
abbrev pub before : Path → FileMap → FileMap
before stop files path = if is_lt (path_cmp path stop) then files path else None

-- the files in front of one were written
abbrev pub written_before : Bool → Pruning → Path → FileMap → FileMap
written_before docker p stop files = over files (moved_to (folder_of_all docker) (before stop (pruned_files p files)))

-- the first file that is to be copied and is over the limit of a file
abbrev pub is_over : FileMap → Path → Bool
is_over files path = not (path_eq path lock_path) && is_large (files path)

abbrev pub first_over : FileMap → List Path → Option Path
first_over files paths = find (is_over files) paths
