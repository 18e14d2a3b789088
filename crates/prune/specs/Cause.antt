-- When pruning answers that a device failed.
use Rattle.std.specs.Prelude.{◌≡◌, ℕ, Result, Err}
use Rattle.rel_path.specs.Causes.{Rose}
use Rattle.prune.specs.declared.error.PruneErr.{PruneErr}
use Rattle.prune.specs.declared.error.PruneErr.TheVariants.{TreeFailed, SinkFailed}

-- the counts of faults of the tree and of the output
pub record Counts : Type 0 where
  pub tree : ℕ
  pub sink : ℕ

-- A fault of a device is answered only where the count of that device rose, and no other did. Every other answer but want of memory leaves them as they are.
abbrev pub HasCause : Counts → Counts → Result (Unit {0}) PruneErr → Type 0
HasCause old new (Err TreeFailed) = Rose old.tree new.tree × (new.sink ≡ old.sink)
HasCause old new (Err SinkFailed) = (new.tree ≡ old.tree) × Rose old.sink new.sink
HasCause old new result = new ≡ old

abbrev pub counts_of : ℕ → ℕ → Counts
counts_of tree sink = record { tree = tree; sink = sink }
