-- The components of an alternative, and those among them that climb.
use Rattle.std.specs.Prelude.{ℕ, Bool, ◌&&◌, min, List, [], ◌∷◌, Option, Some, None, if◌then◌else◌}
use Rattle.std.specs.List.{slice_split}
use Rattle.glob_syntax.specs.declared.token.Token.{Token}
use Rattle.glob_syntax.specs.Tokens.{is_slash_sign, is_dot}
use Rattle.glob_syntax.specs.Pieces.{alternatives_of}

abbrev pub is_slash_token : Token → Bool
is_slash_token token = is_slash_sign token.sign

-- what stands between the slashes
abbrev pub components_of : List Token → List (List Token)
components_of tokens = slice_split is_slash_token tokens

-- the lesser of two places
abbrev pub least : Option ℕ → Option ℕ → Option ℕ
least None b = b
least (Some a) None = Some a
least (Some a) (Some b) = Some (min a b)

-- the place of a component `..`
abbrev pub climb_at : List Token → Option ℕ
climb_at [] = None
climb_at (a ∷ []) = None
climb_at (a ∷ b ∷ []) = if is_dot a.sign && is_dot b.sign then Some a.at else None
climb_at (a ∷ b ∷ c ∷ more) = None

-- the least place of a component `..` among these components
abbrev pub climb_in : List (List Token) → Option ℕ
climb_in [] = None
climb_in (component ∷ components) = least (climb_at component) (climb_in components)

-- the least place among those of these alternatives
abbrev pub climb_among : List (List Token) → Option ℕ
climb_among [] = None
climb_among (tokens ∷ others) = least (climb_in (components_of tokens)) (climb_among others)

-- the least place of a component `..` of some alternative
abbrev pub climb_of : List (List (List Token)) → Option ℕ
climb_of pieces = climb_among (alternatives_of pieces)
