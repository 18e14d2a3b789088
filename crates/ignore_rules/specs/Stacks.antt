-- The rules of the ignore files in a folder.
use Rattle.std.specs.Prelude.{List, [], ◌∷◌, ◌++◌, unwrap_or, if◌then◌else◌}
use Rattle.std.specs.Map.{lookup}
use Rattle.rel_path.specs.Paths.{Path, path_eq}
use Rattle.ignore_rules.specs.declared.rule.Rule.{Rule}

-- of files in any order: those of the folder, one after another
abbrev pub rules_at : List (Path × List Rule) → Path → List Rule
rules_at [] folder = []
rules_at (file ∷ files) folder = (if path_eq folder file.0 then file.1 else []) ++ rules_at files folder

-- of a stack: those of the first entry of the folder
abbrev pub rules_in : List (Path × List Rule) → Path → List Rule
rules_in stack folder = unwrap_or (lookup (path_eq folder) stack) []
