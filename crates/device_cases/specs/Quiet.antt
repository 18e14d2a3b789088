-- A tree in which no path may change.
use Rattle.std.specs.Prelude.{◌≡◌, false}
use Rattle.rel_path.specs.Paths.{Path}
use Rattle.tree_dev.specs.Tree.{TreeState}

abbrev pub IsQuiet : {R : Type 0} → TreeState R → Type 0
IsQuiet state = (path : Path) → state.held path ≡ false
