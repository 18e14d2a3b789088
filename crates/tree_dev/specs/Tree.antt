-- What a tree holds, and what its calls leave and answer.
use Rattle.std.specs.Prelude.{◌≡◌, ℕ, ◌≤◌, nat_lt, Bool, true, if◌then◌else◌, List, length, Option, Some, None}
use Rattle.rel_path.specs.Paths.{Path}
use Rattle.rel_path.specs.Files.{FileMap}
use Rattle.tree_dev.specs.declared.tree.Found.{Found}
use Rattle.tree_dev.specs.declared.tree.Found.TheVariants.{Absent, TooLong, Here}

-- What a tree holds: its files; the paths that may change at any time; what its kind keeps beside them;
-- a number of components that no folder named in it has; its count of faults.
pub record TreeState (R : Type 0) : Type 0 where
  pub files : FileMap
  pub held : Path → Bool
  pub rest : R
  pub reach : ℕ
  pub faults : ℕ

-- what each call of a tree leaves as it is
pub record Keeps {R : Type 0} (old new : TreeState R) : Type 0 where
  pub rest : new.rest ≡ old.rest
  pub held : new.held ≡ old.held
  pub faults : old.faults ≤ new.faults

-- what a call that only looks leaves as it is
pub record Looks {R : Type 0} (old new : TreeState R) : Type 0 where
  pub files : new.files ≡ old.files
  pub rest : new.rest ≡ old.rest
  pub held : new.held ≡ old.held
  pub reach : new.reach ≡ old.reach
  pub faults : old.faults ≤ new.faults

-- what a read finds where at most so many bytes are wanted
abbrev pub within : ℕ → Option (List ℕ) → Found
within limit None = Absent
within limit (Some bytes) = if nat_lt limit (length bytes) then TooLong else Here bytes

-- nothing is told of a path that may change
abbrev pub HoldsNothing : {R : Type 0} → TreeState R → Type 0
HoldsNothing state = (path : Path) → state.held path ≡ true → state.files path ≡ None
