-- The ignore files that count (gitignore; that those which a task declares do not is this project's own rule).
use Rattle.std.specs.Prelude.{ℕ, Bool, false, not, ◌&&◌, if◌then◌else◌, List, [], ◌∷◌, ◌++◌, Option, Some, None, filter, bytes_eq, codes}
use Rattle.rel_path.specs.Paths.{Path, is_among}
use Rattle.rel_path.specs.Files.{FileMap}
use Rattle.ignore_rules.specs.declared.rule.Rule.{Rule}
use Rattle.ignore_rules.specs.Rules.{rules_of}
use Rattle.ignore_rules.specs.Ignored.{is_ignored}
use Rattle.workspaces.specs.declared.member.Package.{Package}
use Rattle.task_definitions.specs.Setup.{Setup}
use Rattle.task_inputs.specs.Homes.{is_declared}

abbrev pub ignore_name : List ℕ
ignore_name = codes ".gitignore"

-- the path's last name is `.gitignore`
abbrev pub is_ignore_file : Path → Bool
is_ignore_file [] = false
is_ignore_file (name ∷ []) = bytes_eq name ignore_name
is_ignore_file (name ∷ next ∷ rest) = is_ignore_file (next ∷ rest)

-- it is one, and no configured task of its home declares it
abbrev pub is_rule_file : Setup → List Package → Path → Bool
is_rule_file setup owners path = is_ignore_file path && not (is_declared setup owners path)

-- the walked ignore files that count
unfoldable pub rule_files : Setup → List Package → List Path → List Path
rule_files setup owners walk = filter (is_rule_file setup owners) walk

abbrev pub rules_found : Option (List ℕ) → List Rule
rules_found None = []
rules_found (Some bytes) = rules_of bytes

-- the rules that hold in a folder: those of its ignore file, where that counts and is there
unfoldable pub rules_by : Setup → List Package → FileMap → List Path → Path → List Rule
rules_by setup owners files walk folder = if is_among (rule_files setup owners walk) (folder ++ ignore_name ∷ []) then rules_found (files (folder ++ ignore_name ∷ [])) else []

-- an ignore file leaves the file out
abbrev pub is_left_out : Setup → List Package → FileMap → List Path → Path → Bool
is_left_out setup owners files walk path = is_ignored (rules_by setup owners files walk) path
