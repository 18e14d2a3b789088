-- Contents, each kept once.
use Rattle.std.specs.Prelude.{ℕ, ◌+◌, Bool, ◌&&◌, if◌then◌else◌, bytes_eq, List, [], ◌∷◌, Option, Some, None}
use Rattle.sha2.specs.Sha256.{sha256}
use Rattle.record_log.specs.declared.kind.TheConstants.{CONTENT}
use Rattle.record_log.specs.Kinds.{Entry, entry, blobs_in}

-- A frame keeps the bytes where its key is their SHA-256 (FIPS 180-4), and its value the bytes.
abbrev pub keeps : List ℕ → Entry → Bool
keeps bytes e = bytes_eq e.key (sha256 bytes) && bytes_eq e.value bytes

-- the number of the first of these frames that keeps the bytes, where the first of all has that number
abbrev pub first_from : ℕ → List ℕ → List Entry → Option ℕ
first_from n bytes [] = None
first_from n bytes (e ∷ es) = if keeps bytes e then Some n else first_from (n + 1) bytes es

-- the number, among the contents, of the first frame that keeps the bytes
abbrev pub first_of : List Entry → List ℕ → Option ℕ
first_of fs bytes = first_from 0 bytes (blobs_in fs)

-- the frame that keeps the bytes
abbrev pub blob : List ℕ → Entry
blob bytes = entry CONTENT (sha256 bytes) bytes

-- none where a frame was found, else that one
abbrev pub unless_found : Option ℕ → List ℕ → List Entry
unless_found (Some _) bytes = []
unless_found None bytes = blob bytes ∷ []

-- the frames that are to be added so that the bytes are kept
abbrev pub missing : List Entry → List ℕ → List Entry
missing fs bytes = unless_found (first_of fs bytes) bytes

-- What is found in two parts, one behind the other, by what is found in each: the first part has so many contents.
abbrev pub found_in_parts : Option ℕ → ℕ → Option ℕ → Option ℕ
found_in_parts (Some k) n later = Some k
found_in_parts None n (Some k) = Some (n + k)
found_in_parts None n None = None
