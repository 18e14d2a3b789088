-- Folders that go apart.
use Rattle.std.specs.Prelude.{Bool, false, not, List, [], ◌∷◌}
use Rattle.rel_path.specs.Paths.{Path, name_eq}

-- at their first name
abbrev pub go_apart : Path → Path → Bool
go_apart [] other = false
go_apart (name ∷ names) [] = false
go_apart (name ∷ names) (next ∷ more) = not (name_eq name next)
