use Rattle.std.proofs.Common.{◌≡◌, ◌<◌, ℕ, false, take}
use Rattle.pruned_files.specs.Folders.{is_folder}
use Rattle.pruned_files.proofs.folders.lies_in_some.Given as goal

-- none of the folders so far
abbrev pub invariant-loop-depth : goal.invariant-loop-depth
invariant-loop-depth l = (depth : ℕ) → 0 < depth → depth < l.depth → is_folder l.folders (take depth l.path) ≡ false
