-- Which paths a glob matches (globs of Turborepo's `inputs` and `outputs`).
use Rattle.std.specs.Prelude.{◌⊎◌, ◌<◌, ℕ, Bool, false, ◌&&◌, ◌||◌, nat_lt, List, length, take, IsTrue, Any}
use Rattle.std.specs.List.{list_all, list_any}
use Rattle.rel_path.specs.Paths.{Path}
use Rattle.glob_syntax.specs.Atoms.{is_char}
use Rattle.glob_syntax.specs.Match.{SpellsPath, spells_path}
use Rattle.glob_syntax.specs.declared.part.Part.{Part}
use Rattle.glob_syntax.specs.declared.part.Part.TheVariants.{Span, Named}

-- without wildcards
abbrev pub is_plain : Part → Bool
is_plain Span = false
is_plain (Named atoms) = list_all is_char atoms

abbrev pub are_plain : List Part → Bool
are_plain parts = list_all is_plain parts

-- ---- as relations

-- the parts take a proper prefix of the path
abbrev pub IsAbovePath : List Part → Path → Type 0
IsAbovePath parts path = (n : ℕ) × (n < length path) × SpellsPath parts (take n path)

-- an alternative takes the whole path, or it has no wildcards and takes a proper prefix
abbrev pub AlternativeMatches : List Part → Path → Type 0
AlternativeMatches parts path = SpellsPath parts path ⊎ (IsTrue (are_plain parts) × IsAbovePath parts path)

-- one of the alternatives takes the whole path
unfoldable pub MatchesWhole : List (List Part) → Path → Type 0
MatchesWhole glob path = Any (λ parts. SpellsPath parts path) glob

-- one of the alternatives matches the path
unfoldable pub Matches : List (List Part) → Path → Type 0
Matches glob path = Any (λ parts. AlternativeMatches parts path) glob

-- ---- as tests

-- parts without wildcards take as many components as they are
abbrev pub is_above : List Part → Path → Bool
is_above parts path = nat_lt (length parts) (length path) && spells_path parts (take (length parts) path)

abbrev pub alternative_matches : List Part → Path → Bool
alternative_matches parts path = spells_path parts path || (are_plain parts && is_above parts path)

unfoldable pub matches_whole : List (List Part) → Path → Bool
matches_whole glob path = list_any (λ parts. spells_path parts path) glob

unfoldable pub matches : List (List Part) → Path → Bool
matches glob path = list_any (λ parts. alternative_matches parts path) glob
