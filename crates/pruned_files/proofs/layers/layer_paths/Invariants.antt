use Rattle.std.proofs.Common.{◌≡◌, List, filter, take}
use Rattle.workspaces.specs.declared.member.Package.{Package}
use Rattle.pruned_files.specs.Folders.{AreFoldersOf}
use Rattle.pruned_files.specs.Layers.{is_manifest_layer}
use Rattle.pruned_files.proofs.layers.layer_paths.Given as goal

-- those of the paths so far
abbrev pub invariant-loop-path : goal.invariant-loop-path
invariant-loop-path l = (members : List Package) → AreFoldersOf members l.folders → l.layer ≡ filter (is_manifest_layer members) (take l.path-index l.path-items)
