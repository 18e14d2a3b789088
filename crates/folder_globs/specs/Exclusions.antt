-- The text of a list of globs that excludes exactly what lies below a folder.
use Rattle.std.specs.Prelude.{◌==◌, ℕ, Bool, true, false, ◌||◌, List, [], ◌∷◌, ◌++◌, Option, Some, None, IsUtf8, codes, if◌then◌else◌}
use Rattle.std.specs.List.{AllByRecursion}
use Rattle.rel_path.specs.Paths.{Path, AreNames, strip}
use Rattle.glob_syntax.specs.Characters.{exclamation_mark, asterisk, comma, slash, question_mark, open_bracket, backslash, close_bracket, open_brace, close_brace}

-- one of the characters `*?[]{}!,\`, which have a meaning in a glob or in front of it
unfoldable pub is_special : ℕ → Bool
is_special c = c == asterisk || c == question_mark || c == open_bracket || c == close_bracket || c == open_brace || c == close_brace || c == exclamation_mark || c == comma || c == backslash

-- the name with a `\` in front of each of these
abbrev pub escaped : List ℕ → List ℕ
escaped [] = []
escaped (b ∷ bs) = if is_special b then backslash ∷ b ∷ escaped bs else b ∷ escaped bs

-- the glob that matches exactly what lies below the folder
abbrev pub below_folder : Path → List ℕ
below_folder [] = codes "**/*"
below_folder (name ∷ names) = escaped name ++ slash ∷ below_folder names

-- the text of a list that excludes it
unfoldable pub exclusion : Path → List ℕ
exclusion folder = exclamation_mark ∷ below_folder folder

-- a path that is there and is not empty
abbrev pub is_proper : Option Path → Bool
is_proper None = false
is_proper (Some []) = false
is_proper (Some (name ∷ names)) = true

-- a proper extension of the folder
abbrev pub lies_below : Path → Path → Bool
lies_below path folder = is_proper (strip folder path)

-- each component is UTF-8
abbrev pub AreTexts : Path → Type 0
AreTexts path = AllByRecursion IsUtf8 path

-- each component is a name and UTF-8, as in every path that the code has
pub record IsFolder (folder : Path) : Type 0 where
  pub names : AreNames folder
  pub texts : AreTexts folder
