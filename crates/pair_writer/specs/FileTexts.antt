-- The bytes of the files of a pair, each of which may be kept as a content.
use Rattle.std.specs.Prelude.{ℕ, if◌then◌else◌, bytes_eq, List, [], ◌++◌, map, take, drop, Some, None}
use Rattle.codes.specs.Codes.{Taken, took}
use Rattle.cache_api.specs.declared.puts.NewPair.{NewPair}
use Rattle.cache_api.specs.Artifacts.{Artifact, artifact}
use Rattle.cache_api.specs.Keys.{text_of}
use Rattle.pair_frames.specs.declared.limits.TheConstants.{MAGIC_BYTES}
use Rattle.pair_frames.specs.Runs.{NamedBytes, read_files, key_magic}

-- what was read of a file but its path
abbrev pub bytes_read : Taken NamedBytes → Taken (List ℕ)
bytes_read None = None
bytes_read (Some (file, rest)) = took file.1 rest

-- of the files of a list, where one was read
abbrev pub texts_read : Taken (List NamedBytes) → List (List ℕ)
texts_read None = []
texts_read (Some (files, rest)) = map (λ file. file.1) files

-- of those that a key lists
abbrev pub key_texts : List ℕ → List (List ℕ)
key_texts key =
    if bytes_eq (take MAGIC_BYTES key) key_magic
    then texts_read (read_files (drop MAGIC_BYTES key))
    else []

abbrev pub artifact_texts : Artifact → List (List ℕ)
artifact_texts a = map (λ file. file.1) a.1

-- of those that its key lists, and behind them of those of its artifact
abbrev pub file_texts : NewPair → List (List ℕ)
file_texts pair = key_texts (text_of pair.key) ++ artifact_texts (artifact pair.artifact.now)
