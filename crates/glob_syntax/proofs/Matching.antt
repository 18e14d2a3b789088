-- The tests of matching decide its relations.
use Rattle.std.proofs.Common.{◌↔◌, ℕ, List, IsTrue}
use Rattle.std.specs.Str.{chars}
use Rattle.rel_path.specs.Paths.{Path}
use Rattle.wildcards.proofs.Decides.{spells_decides}
use Rattle.glob_syntax.specs.Atoms.{accepts, is_star}
use Rattle.glob_syntax.specs.declared.atom.Atom.{Atom}
use Rattle.glob_syntax.specs.declared.part.Part.{Part}
use Rattle.glob_syntax.specs.declared.part.Part.TheVariants.{Span, Named}
use Rattle.glob_syntax.specs.Match.{is_span, TakesChar, SpellsAtoms, TakesComponent, SpellsPath, spells_atoms, spells_name, takes_component, spells_path}

pub spells_atoms_decides : (atoms : List Atom) (cs : List ℕ) → IsTrue (spells_atoms atoms cs) ↔ SpellsAtoms atoms cs
spells_atoms_decides = spells_decides is_star accepts TakesChar (λ atom c. (λ t. t, λ t. t))

pub takes_component_decides : (part : Part) (component : List ℕ) → IsTrue (takes_component part component) ↔ TakesComponent part component
unfolding spells_name
takes_component_decides Span component = (λ t. cc, λ s. absurd s)
takes_component_decides (Named atoms) component = spells_atoms_decides atoms (chars component)

pub spells_path_decides : (parts : List Part) (path : Path) → IsTrue (spells_path parts path) ↔ SpellsPath parts path
spells_path_decides = spells_decides is_span takes_component TakesComponent takes_component_decides
