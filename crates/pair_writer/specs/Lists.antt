-- The list of files at the front of bytes, looked over.
use Rattle.std.specs.Prelude.{ℕ, Bool, true, false, ◌&&◌, bytes_eq, List, take, drop, Some, None}
use Rattle.codes.specs.Codes.{Taken}
use Rattle.pair_frames.specs.declared.limits.TheConstants.{MAGIC_BYTES}
use Rattle.pair_frames.specs.Runs.{read_files, key_magic}

abbrev pub is_taken : {A : Type 0} → Taken A → Bool
is_taken None = false
is_taken (Some _) = true

-- the key begins as one that lists files
abbrev pub lists_files : List ℕ → Bool
lists_files key =
    bytes_eq (take MAGIC_BYTES key) key_magic && is_taken (read_files (drop MAGIC_BYTES key))
