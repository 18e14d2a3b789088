-- Frames that are to be appended.
use Rattle.std.specs.Prelude.{◌≡◌, ◌⊎◌, ℕ, List, [], ◌∷◌, ◌++◌, length}
use Rattle.record_log.specs.Kinds.{Entry}
use Rattle.record_log.specs.Frames.{opened}
use Rattle.blob_pool.specs.Pool.{blob}
use Rattle.pair_writer.specs.declared.staged.Staged.{Staged}
use Rattle.pair_writer.specs.Held.{staged_entries}

-- the frames, in order
abbrev pub entries : Staged → List Entry
entries staged = staged_entries staged.frames.items

-- what they take in a store, each with a gate
abbrev pub taken : Staged → ℕ
taken staged = length (opened (entries staged))

-- how many contents there are among them
abbrev pub staged_count : Staged → ℕ
staged_count staged = length staged.contents.bytes.items

-- the same frames, and more behind them or none
abbrev pub Extends : List Entry → List Entry → Type 0
Extends es now = (more : List Entry) × (now ≡ es ++ more)

-- the same frames, or these and one that keeps the bytes
abbrev pub MayKeep : List Entry → List ℕ → List Entry → Type 0
MayKeep es bytes now = (now ≡ es) ⊎ (now ≡ es ++ blob bytes ∷ [])
