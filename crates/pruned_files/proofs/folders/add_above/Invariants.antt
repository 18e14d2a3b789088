use Rattle.std.proofs.Common.{◌≡◌, ◌||◌, take}
use Rattle.std.specs.Prelude.{is_some}
use Rattle.rel_path.specs.Paths.{Path, strip}
use Rattle.pruned_files.specs.Folders.{is_folder}
use Rattle.pruned_files.proofs.folders.add_above.Given as goal

-- the folder so far, and those that it lies in
abbrev pub invariant-loop-depth : goal.invariant-loop-depth
invariant-loop-depth l = (other : Path) → is_folder l.folders other ≡ (is_folder l.fn.folders other || is_some (strip other (take l.depth l.folder)))
