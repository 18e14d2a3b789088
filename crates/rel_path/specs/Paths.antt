-- Paths as lists of components, a component being a list of bytes, and why a text is no path.
use Rattle.std.specs.Prelude.{◌≡◌, ◌==◌, ℕ, Bool, ◌||◌, IsTrue, List, [], ◌∷◌, ◌++◌, length, Option, Some, None, is_none, if◌then◌else◌, ⊤, nat_eq, bytes_eq}
use Rattle.std.specs.List.{slice_split, list_any, list_all}
use Rattle.std.specs.declared.cmp.Ordering.{Ordering}
use Rattle.std.specs.Ordering.{nat_cmp}
use Rattle.std.specs.Cmp.Lexicographic.{slice_cmp, pointwise}
use Rattle.rel_path.specs.declared.error.PathErr.{PathErr}
use Rattle.rel_path.specs.declared.error.PathErr.TheVariants.{Empty, DotPart, Slash, OutOfMemory}

abbrev pub Path : Type 0
Path = List (List ℕ)

abbrev pub name_eq : List ℕ → List ℕ → Bool
name_eq = pointwise nat_eq

abbrev pub path_eq : Path → Path → Bool
path_eq = pointwise (pointwise nat_eq)

-- names in the order of their bytes
abbrev pub name_cmp : List ℕ → List ℕ → Ordering
name_cmp = slice_cmp nat_cmp

-- paths in the order of their components
abbrev pub path_cmp : Path → Path → Ordering
path_cmp = slice_cmp (slice_cmp nat_cmp)

-- `/`
abbrev pub is_slash : ℕ → Bool
is_slash b = b == 47

-- `.` and `..`
abbrev pub is_dots : List ℕ → Bool
is_dots part = bytes_eq part (46 ∷ []) || bytes_eq part (46 ∷ 46 ∷ [])

-- why a part between two slashes is no component
abbrev pub part_fault : List ℕ → Option PathErr
part_fault part = if is_dots part then Some DotPart else (if length part == 0 then Some Slash else None)

-- the first of two faults
abbrev pub or_later : Option PathErr → Option PathErr → Option PathErr
or_later None later = later
or_later (Some fault) later = Some fault

-- of the first bad part
abbrev pub first_fault : List (List ℕ) → Option PathErr
first_fault [] = None
first_fault (part ∷ parts) = or_later (part_fault part) (first_fault parts)

-- the parts of a text between its slashes
abbrev pub parts_of : List ℕ → Path
parts_of text = slice_split is_slash text

-- why a text is no path
abbrev pub text_fault : List ℕ → Option PathErr
text_fault text = if length text == 0 then Some Empty else first_fault (parts_of text)

-- why a text is no single component
abbrev pub name_fault : List ℕ → Option PathErr
name_fault name = if length name == 0 then Some Empty else (if is_dots name then Some DotPart else (if list_any is_slash name then Some Slash else None))

-- an error is the fault, or want of memory, which may come at any time
abbrev pub MayRefuse : Option PathErr → PathErr → Type 0
MayRefuse fault Empty = fault ≡ Some Empty
MayRefuse fault DotPart = fault ≡ Some DotPart
MayRefuse fault Slash = fault ≡ Some Slash
MayRefuse fault OutOfMemory = ⊤

-- a name that a path may have as a component
abbrev pub is_component : List ℕ → Bool
is_component name = is_none (name_fault name)

-- each is a component
abbrev pub AreNames : Path → Type 0
AreNames names = IsTrue (list_all is_component names)

-- a proper extension
abbrev pub IsBelow : Path → Path → Type 0
IsBelow path folder = (name : List ℕ) × (names : Path) × (path ≡ folder ++ name ∷ names)

-- what is left of a path below a folder, or of the folder itself
abbrev pub strip : Path → Path → Option Path
strip [] path = Some path
strip (f ∷ fs) [] = None
strip (f ∷ fs) (n ∷ ns) = if pointwise nat_eq f n then strip fs ns else None

-- the path is one of these
abbrev pub is_among : List Path → Path → Bool
is_among paths path = list_any (λ other. path_eq other path) paths
