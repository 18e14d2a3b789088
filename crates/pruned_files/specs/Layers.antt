-- The files that an installation of packages needs, apart from all others (Turborepo docs, "prune --docker": the folder `json`).
use Rattle.std.specs.Prelude.{◌||◌, Bool, List, [], ◌∷◌, None, if◌then◌else◌}
use Rattle.std.specs.List.{list_any}
use Rattle.rel_path.specs.Paths.{Path, path_eq}
use Rattle.rel_path.specs.Files.{FileMap}
use Rattle.workspaces.specs.declared.member.Package.{Package}
use Rattle.workspaces.specs.Space.{manifest_in, manifest_name}
use Rattle.repository.specs.Steps.{at_root}
use Rattle.repository.specs.Reading.{Contents, lock_name}
use Rattle.pruned_files.specs.Cut.{kept_owners}
use Rattle.pruned_files.specs.Pruned.{Pruning, npmrc_name}

-- the root's `package.json`, `package-lock.json` and `.npmrc`, and the `package.json` of each owner
abbrev pub is_manifest_layer : List Package → Path → Bool
is_manifest_layer kept path =
    list_any (λ name. path_eq path (at_root name)) (manifest_name ∷ lock_name ∷ npmrc_name ∷ [])
    || list_any (λ p. path_eq path (manifest_in p.folder)) kept

-- those of the files that are so
abbrev pub layer_of : List Package → FileMap → FileMap
layer_of kept files path = if is_manifest_layer kept path then files path else None

abbrev pub manifest_layer : Contents → Pruning → FileMap → FileMap
manifest_layer contents p files = layer_of (kept_owners contents.space p.set) files
