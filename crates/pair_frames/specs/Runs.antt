-- The two texts of a pair as runs of bytes: those of a file that are kept once, as a content, and
-- all others.
use Rattle.std.specs.Prelude.{ℕ, Bool, ◌&&◌, nat_le, if◌then◌else◌, bytes_eq, codes, List, [], ◌∷◌, ◌++◌, map, length, take, drop, Some, None}
use Rattle.codes.specs.Codes.{Taken, word, str, read_str, read_list, read_both}
use Rattle.rel_path.specs.Limits.{file_limit}
use Rattle.listing.specs.KeyText.{path_text}
use Rattle.cache_api.specs.Artifacts.{File, Artifact}
use Rattle.pair_frames.specs.declared.limits.TheConstants.{MIN_CONTENT_BYTES, MAGIC_BYTES}

pub data Run : Type 0 where
  Plain : List ℕ → Run
  -- the bytes of a file that are a content
  Whole : List ℕ → Run

-- the bytes of runs one after another
abbrev pub flat : List Run → List ℕ
flat [] = []
flat (Plain bytes ∷ runs) = bytes ++ flat runs
flat (Whole bytes ∷ runs) = bytes ++ flat runs

-- the contents among runs
abbrev pub contents_in : List Run → List (List ℕ)
contents_in [] = []
contents_in (Plain bytes ∷ runs) = contents_in runs
contents_in (Whole bytes ∷ runs) = bytes ∷ contents_in runs

-- the bytes of a file are a content where they are neither few nor more than a file may have
abbrev pub is_content : List ℕ → Bool
is_content bytes = nat_le MIN_CONTENT_BYTES (length bytes) && nat_le (length bytes) file_limit

abbrev pub file_run : List ℕ → Run
file_run bytes = if is_content bytes then Whole bytes else Plain bytes

-- the text of a path, and the bytes of its file
abbrev pub NamedBytes : Type 0
NamedBytes = List ℕ × List ℕ

-- the members of a list of files
abbrev pub file_runs : List NamedBytes → List Run
file_runs [] = []
file_runs (file ∷ files) =
    Plain (str file.0 ++ word (length file.1)) ∷ file_run file.1 ∷ file_runs files

unfoldable pub read_files : List ℕ → Taken (List NamedBytes)
read_files bytes = read_list (read_both read_str read_str) bytes

-- Bytes, a list of files behind them and the rest. All of it is one run where no such list stands
-- there.
abbrev pub list_runs : List ℕ → List ℕ → Taken (List NamedBytes) → List Run
list_runs whole head None = Plain whole ∷ []
list_runs whole head (Some (files, rest)) =
    Plain (head ++ word (length files)) ∷ (file_runs files ++ Plain rest ∷ [])

-- how a key text begins
abbrev pub key_magic : List ℕ
key_magic = codes "TURBKEY1"

-- a key text has its list of input files behind its magic
unfoldable pub key_runs : List ℕ → List Run
key_runs key =
    if bytes_eq (take MAGIC_BYTES key) key_magic
    then list_runs key key_magic (read_files (drop MAGIC_BYTES key))
    else Plain key ∷ []

-- an artifact's text has its list of files behind the log
abbrev pub value_by : List ℕ → Taken (List ℕ) → List Run
value_by value None = Plain value ∷ []
value_by value (Some (log, rest)) = list_runs value (str log) (read_files rest)

unfoldable pub value_runs : List ℕ → List Run
value_runs value = value_by value (read_str value)

-- ---- an artifact that can be told from its text

abbrev pub named_file : File → NamedBytes
named_file file = (path_text file.0, file.1)

-- its log, and its files
abbrev pub artifact_runs : Artifact → List Run
artifact_runs a =
    Plain (str a.0 ++ word (length a.1)) ∷ (file_runs (map named_file a.1) ++ Plain [] ∷ [])
