-- What the alternatives of the end of a glob say to the token before them.
use Rattle.std.specs.Prelude.{Bool, true, false, ◌&&◌, ◌||◌, List, [], ◌∷◌, Some, None, if◌then◌else◌}
use Rattle.glob_syntax.specs.declared.token.Token.{Token}
use Rattle.glob_syntax.specs.declared.climb.Outlook.{Outlook}
use Rattle.glob_syntax.specs.Tokens.{is_slash_sign, is_dot}
use Rattle.glob_syntax.specs.Climbs.{components_of, least, climb_in}

abbrev pub nowhere : Outlook
nowhere = record { any = false; ends = false; dot_ends = false; begins = None; goes_on = None }

abbrev pub is_nothing : List (List Token) → Bool
is_nothing [] = true
is_nothing ([] ∷ components) = true
is_nothing ((t ∷ ts) ∷ components) = false

abbrev pub is_one_dot : List (List Token) → Bool
is_one_dot [] = false
is_one_dot ([] ∷ components) = false
is_one_dot ((t ∷ []) ∷ components) = is_dot t.sign
is_one_dot ((t ∷ u ∷ ts) ∷ components) = false

abbrev pub behind_first : List (List Token) → List (List Token)
behind_first [] = []
behind_first (component ∷ components) = components

-- of one alternative, by its components
abbrev pub outlook_in : List (List Token) → Outlook
outlook_in components = record { any = true; ends = is_nothing components; dot_ends = is_one_dot components; begins = climb_in components; goes_on = climb_in (behind_first components) }

abbrev pub either_of : Outlook → Outlook → Outlook
either_of a b = record { any = a.any || b.any; ends = a.ends || b.ends; dot_ends = a.dot_ends || b.dot_ends; begins = least a.begins b.begins; goes_on = least a.goes_on b.goes_on }

-- of some alternatives
abbrev pub outlook_of : List (List Token) → Outlook
outlook_of [] = nowhere
outlook_of (tokens ∷ others) = either_of (outlook_in (components_of tokens)) (outlook_of others)

-- with the token in front of each alternative
abbrev pub behind_of : Token → Outlook → Outlook
behind_of t later = record { any = later.any; ends = is_slash_sign t.sign && later.any; dot_ends = is_dot t.sign && later.ends; begins = least (if is_dot t.sign && later.dot_ends then Some t.at else None) (if is_slash_sign t.sign then later.begins else later.goes_on); goes_on = if is_slash_sign t.sign then later.begins else later.goes_on }

-- with the part in front of each alternative
abbrev pub before_part : List Token → Outlook → Outlook
before_part [] later = later
before_part (t ∷ ts) later = behind_of t (before_part ts later)

-- with each of the parts in front of each alternative
abbrev pub before_parts : List (List Token) → Outlook → Outlook
before_parts [] later = nowhere
before_parts (part ∷ parts) later = either_of (before_part part later) (before_parts parts later)
