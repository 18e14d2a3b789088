-- How bytes are read as an artifact, and the law of it.
use Rattle.std.specs.Prelude.{◌≡◌, ℕ, ◌&&◌, if◌then◌else◌, List, Option, Some, None, is_none}
use Rattle.std.specs.Str.{is_utf8}
use Rattle.rel_path.specs.Paths.{Path, parts_of, text_fault}
use Rattle.codes.specs.Codes.{AreBytes, Taken, then_read, read_str, read_list, read_both, whole_of}
use Rattle.cache_api.specs.Artifacts.{File, Artifact, artifact_text, ascends, IsTold, ArtifactFits}

-- the path that a text writes: it is UTF-8, and its parts between slashes are components
abbrev pub path_in : List ℕ → Option Path
path_in text = if is_utf8 text && is_none (text_fault text) then Some (parts_of text) else None

abbrev pub then_rest : Option Path → List ℕ → Taken Path
then_rest None rest = None
then_rest (Some path) rest = Some (path, rest)

unfoldable pub read_path : List ℕ → Taken Path
read_path bytes = then_read (read_str bytes) (λ text rest. then_rest (path_in text) rest)

unfoldable pub read_file : List ℕ → Taken File
read_file bytes = read_both read_path read_str bytes

unfoldable pub read_files : List ℕ → Taken (List File)
read_files bytes = read_list read_file bytes

abbrev pub if_ascending : Option Artifact → Option Artifact
if_ascending None = None
if_ascending (Some a) = if ascends a.1 then Some a else None

-- The artifact that bytes are, if they are one: a log and a list of files, nothing behind them, each path a path below
-- the root and before the next one.
unfoldable pub artifact_in : List ℕ → Option Artifact
artifact_in bytes = if_ascending (whole_of (read_both read_str read_files bytes))

-- how a value reads as an artifact, if it does
abbrev pub Reader : Type 0
Reader = List ℕ → Option Artifact

-- an artifact is read back from its text
abbrev pub ReadsBack : Reader → Type 0
ReadsBack read = (a : Artifact) → ArtifactFits a → read (artifact_text a) ≡ Some a

-- what is read was written
abbrev pub ReadsText : Reader → Type 0
ReadsText read = (bytes : List ℕ) (a : Artifact) → AreBytes bytes → read bytes ≡ Some a
    → (bytes ≡ artifact_text a) × ArtifactFits a

-- from the text of an artifact nothing else is read
abbrev pub ReadsOnly : Reader → Type 0
ReadsOnly read = (a b : Artifact) → IsTold a → read (artifact_text a) ≡ Some b → b ≡ a
