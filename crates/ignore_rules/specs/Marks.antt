-- The characters of a line as an ignore file reads them (gitignore: "Put a backslash in front of
-- ..", "Trailing spaces are ignored unless they are quoted with backslash").
use Rattle.std.specs.Prelude.{Bool, false, ◌&&◌, ◌||◌, List, [], ◌∷◌, if◌then◌else◌}
use Rattle.glob_syntax.specs.declared.mark.Mark.{Mark}
use Rattle.glob_syntax.specs.Characters.{space, slash, backslash}
use Rattle.glob_syntax.specs.Marks.{is_plain, is_slash}

-- at the end of a pattern, a `\` that quotes nothing: one that stands there, or one whose `/` is taken off
abbrev pub dangles : Mark → Bool
dangles mark = is_plain backslash mark || (mark.quoted && is_slash mark)

-- the last mark is as said
abbrev pub ends_in : (Mark → Bool) → List Mark → Bool
ends_in test [] = false
ends_in test (m ∷ []) = test m
ends_in test (m ∷ n ∷ ms) = ends_in test (n ∷ ms)

-- without the last mark
abbrev pub front_of : List Mark → List Mark
front_of [] = []
front_of (m ∷ []) = []
front_of (m ∷ n ∷ ms) = m ∷ front_of (n ∷ ms)

-- in front of what is left; a space in front of nothing is dropped
abbrev pub trim_onto : Mark → List Mark → List Mark
trim_onto m [] = if is_plain space m then [] else m ∷ []
trim_onto m (n ∷ ns) = m ∷ n ∷ ns

-- without the spaces at the end that are not quoted
abbrev pub trimmed : List Mark → List Mark
trimmed [] = []
trimmed (m ∷ ms) = trim_onto m (trimmed ms)

-- without a plain `/` in front
abbrev pub without_first_slash : List Mark → List Mark
without_first_slash [] = []
without_first_slash (m ∷ ms) = if is_plain slash m then ms else m ∷ ms
