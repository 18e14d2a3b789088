-- Which paths are ignored (gitignore: "the last matching pattern decides the outcome"; "It is not possible to re-include a file if a parent directory of that file is excluded").
use Rattle.std.specs.Prelude.{◌≡◌, ◌<◌, ◌≤◌, ℕ, ◌-◌, Bool, true, false, not, ◌&&◌, ◌||◌, nat_lt, List, [], ◌∷◌, ◌++◌, length, take, drop, map, Any, Option, Some, None, unwrap_or, if◌then◌else◌}
use Rattle.std.specs.Option.{option_or}
use Rattle.rel_path.specs.Paths.{Path}
use Rattle.wildcards.specs.Spells.{is_empty}
use Rattle.ignore_rules.specs.declared.rule.Rule.{Rule}
use Rattle.glob_syntax.specs.Match.{SpellsPath, spells_path}

-- ---- what one rule takes, by what is left of a path below the folder of the rule's file

-- what a pattern has to take: the whole path where it is anchored, else the name at its end, at whatever depth
abbrev pub reached : Bool → Path → Path
reached anchored below = if anchored then below else drop (length below - 1) below

-- the rule takes the path, which is a folder or none
abbrev pub takes : Bool → Path → Rule → Bool
takes is_folder below rule = (not rule.folders_only || is_folder) && spells_path rule.parts (reached rule.anchored below)

-- ---- what rules say

-- what a rule says of a path that it takes: whether it is left out
abbrev pub rule_says : Bool → Path → Rule → Option Bool
rule_says is_folder below rule = if takes is_folder below rule then Some (not rule.again) else None

-- what the last of the rules says that takes the path: of two answers the later one, if there is
abbrev pub says : Bool → Path → List Rule → Option Bool
says is_folder below [] = None
says is_folder below (rule ∷ rules) =
    option_or (says is_folder below rules) (rule_says is_folder below rule)

-- What the last rule says that takes the path, of the files in the folders above it from the root down. The path is a folder on the way, above the second path, followed by that.
unfoldable pub verdict : (Path → List Rule) → Bool → Path → Path → Option Bool
verdict rules is_folder above [] = None
verdict rules is_folder above (name ∷ below) =
    option_or (verdict rules is_folder (above ++ name ∷ []) below)
    (says is_folder (name ∷ below) (rules above))

-- a path is left out where the last rule that takes it says so
unfoldable pub leaves_out : (Path → List Rule) → Bool → Path → Bool
leaves_out rules is_folder path = unwrap_or (verdict rules is_folder [] path) false

-- ---- which paths are ignored, by the rules of the file in each folder

-- of the folders on the way below this one and the path itself, one is left out
unfoldable pub left_out_below : (Path → List Rule) → Path → Path → Bool
left_out_below rules above [] = false
left_out_below rules above (name ∷ below) = leaves_out rules (not (is_empty below)) (above ++ name ∷ []) || left_out_below rules (above ++ name ∷ []) below

-- the file at the path is ignored
unfoldable pub is_ignored : (Path → List Rule) → Path → Bool
is_ignored rules path = left_out_below rules [] path

-- ---- the same as relations

-- the rule takes the path, which is a folder or none
abbrev pub Takes : Bool → Path → Rule → Type 0
Takes is_folder below rule = (rule.folders_only ≡ true → is_folder ≡ true) × SpellsPath rule.parts (reached rule.anchored below)

-- the rules of the files in the folders above a path, from the root down, each with what is left of the path below that folder; the path is a folder on the way, above the second path, followed by that
unfoldable pub rules_above : (Path → List Rule) → Path → Path → List (Rule × Path)
rules_above rules above [] = []
rules_above rules above (name ∷ below) = map (λ rule. (rule, name ∷ below)) (rules above) ++ rules_above rules (above ++ name ∷ []) below

-- of these rules the last that takes the path does not include it again
pub record LeftOut (is_folder : Bool) (rules : List (Rule × Path)) : Type 0 where
  pub before : List (Rule × Path)
  pub rule : Rule
  pub below : Path
  pub after : List (Rule × Path)
  pub stands : rules ≡ before ++ (rule, below) ∷ after
  pub taken : Takes is_folder below rule
  pub out : rule.again ≡ false
  pub last : ¬ (Any (λ entry. Takes is_folder entry.1 entry.0) after)

-- of the folders on the way to the file and the file itself, which are the first n names of the path, one is left out
unfoldable pub Ignored : (Path → List Rule) → Path → Type 0
Ignored rules path = (n : ℕ) × (0 < n) × (n ≤ length path) × LeftOut (nat_lt n (length path)) (rules_above rules [] (take n path))
