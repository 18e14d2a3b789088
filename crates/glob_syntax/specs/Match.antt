-- What patterns of components take: `*`, `?` and classes within a component, `**` for any number of components (pattern matching notation of POSIX, Shell Command Language, section 2.13; `**` as in gitignore).
use Rattle.std.specs.Prelude.{ℕ, Bool, true, false, List, [], ◌∷◌, Option, Some, None, IsTrue}
use Rattle.std.specs.Str.{chars}
use Rattle.rel_path.specs.Paths.{Path}
use Rattle.wildcards.specs.Spells.{Spells, spells}
use Rattle.glob_syntax.specs.Atoms.{is_star, accepts}
use Rattle.glob_syntax.specs.declared.atom.Atom.{Atom}
use Rattle.glob_syntax.specs.declared.part.Part.{Part}
use Rattle.glob_syntax.specs.declared.part.Part.TheVariants.{Span, Named}

abbrev pub is_span : Part → Bool
is_span Span = true
is_span (Named atoms) = false

-- ---- as relations

-- the atom takes this one character
abbrev pub TakesChar : Atom → ℕ → Type 0
TakesChar atom c = IsTrue (accepts atom c)

-- the pattern takes these characters: a `*` any run of them, every other atom one
abbrev pub SpellsAtoms : List Atom → List ℕ → Type 0
SpellsAtoms atoms cs = Spells is_star TakesChar atoms cs

-- the part takes this one component
abbrev pub TakesComponent : Part → List ℕ → Type 0
TakesComponent Span component = ⊥
TakesComponent (Named atoms) component = SpellsAtoms atoms (chars component)

-- the parts take the whole path: a span any number of components, every other part one
abbrev pub SpellsPath : List Part → Path → Type 0
SpellsPath parts path = Spells is_span TakesComponent parts path

-- ---- as tests

abbrev pub spells_atoms : List Atom → List ℕ → Bool
spells_atoms atoms cs = spells is_star accepts atoms cs

unfoldable pub spells_name : List Atom → List ℕ → Bool
spells_name atoms text = spells_atoms atoms (chars text)

abbrev pub takes_component : Part → List ℕ → Bool
takes_component Span component = false
takes_component (Named atoms) component = spells_name atoms component

abbrev pub spells_path : List Part → Path → Bool
spells_path parts path = spells is_span takes_component parts path

-- ---- a text, split at its first character

abbrev pub with_first : Option ℕ → List ℕ → List ℕ
with_first None behind = []
with_first (Some c) behind = c ∷ chars behind
