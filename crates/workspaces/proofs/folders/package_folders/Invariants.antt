use Rattle.std.proofs.Common.{◌≡◌, ◌++◌, drop}
use Rattle.std.specs.Prelude.{filter}
use Rattle.std.specs.List.{filter_map}
use Rattle.workspaces.specs.Space.{folder_of, is_taken}
use Rattle.workspaces.proofs.folders.package_folders.Given as goal

-- the folders so far, and those of the paths that are left
abbrev pub invariant-loop-path : goal.invariant-loop-path
invariant-loop-path l = l.folders.items ++ filter (is_taken l.globs) (filter_map folder_of (drop l.path-index l.walk)) ≡ filter (is_taken l.globs) (filter_map folder_of l.walk)
