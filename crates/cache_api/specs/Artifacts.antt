-- What a task left, and its text (Turborepo docs, "Caching": the log and the `outputs` of a task are cached; the format is
-- this project's own). A string stands behind its length, a list behind its count, and a number is four bytes, the least
-- first.
use Rattle.std.specs.Prelude.{ℕ, Bool, true, ◌&&◌, IsTrue, List, [], ◌∷◌, ◌++◌}
use Rattle.std.specs.Str.{is_utf8}
use Rattle.std.specs.Ordering.{is_lt}
use Rattle.rel_path.specs.Paths.{Path, path_cmp}
use Rattle.codes.specs.Codes.{str, IsShort, list, IsList, AreBoth}
use Rattle.listing.specs.KeyText.{path_text, file_code, PathFits}
use Rattle.cache_api.specs.declared.artifact.Artifact.{Artifact as Held}

-- a path and the bytes of its file
abbrev pub File : Type 0
File = Path × List ℕ

-- a log and files
abbrev pub Artifact : Type 0
Artifact = List ℕ × List File

-- without where it lies in memory
abbrev pub artifact : Held → Artifact
artifact a = (a.log, a.files)

-- the log behind its length, and the list of the files
unfoldable pub artifact_text : Artifact → List ℕ
artifact_text a = str a.0 ++ list file_code a.1

-- ---- which artifacts are read back

-- each path stands before the next one, component by component, and that path before the first
abbrev pub ascends_from : Path → List File → Bool
ascends_from last [] = true
ascends_from last (file ∷ files) = is_lt (path_cmp last file.0) && ascends_from file.0 files

-- no path is the root, and each stands before the next one
abbrev pub ascends : List File → Bool
ascends files = ascends_from [] files

-- the text of each path is UTF-8
abbrev pub are_texts : List File → Bool
are_texts [] = true
are_texts (file ∷ files) = is_utf8 (path_text file.0) && are_texts files

-- a file whose path and bytes are short enough for their lengths to be written, and whose path is a text
pub record FileFits (file : File) : Type 0 where
  pub short : AreBoth PathFits IsShort file
  pub text : IsTrue (is_utf8 (path_text file.0))

-- the artifact can be told from its text: each string and list has fewer than 2^32 bytes or members
pub record IsTold (a : Artifact) : Type 0 where
  pub log : IsShort a.0
  pub files : IsList (AreBoth PathFits IsShort) a.1

-- the artifact is read back from its text: besides, its paths ascend and are texts
pub record ArtifactFits (a : Artifact) : Type 0 where
  pub log : IsShort a.0
  pub files : IsList (AreBoth PathFits IsShort) a.1
  pub texts : IsTrue (are_texts a.1)
  pub ascend : IsTrue (ascends a.1)
