-- The pieces of a glob, and the alternatives that they give (braces as in the brace expansion of shells, without nesting).
use Rattle.std.specs.Prelude.{Bool, not, ◌&&◌, List, [], ◌∷◌, ◌++◌, map, if◌then◌else◌}
use Rattle.std.specs.List.{flat_map}
use denote.Ref.{Bor}
use Rattle.glob_syntax.specs.declared.token.Sign.{Sign}
use Rattle.glob_syntax.specs.declared.token.Sign.TheVariants as sign
use Rattle.glob_syntax.specs.declared.token.Token.{Token}
use Rattle.glob_syntax.specs.Braces.{has_close}

-- the tokens that references point to
abbrev pub seen : List (Bor Token) → List Token
seen tokens = map (λ t. t.now) tokens

-- a token inside braces, or outside before a `}` that would close it: goes on with the part, begins the next part, or ends the piece
abbrev pub step : {R : Type 0} → Sign → Bool → Bool → R → R → R → R
step sign.Open inside closed more next ends = if not inside && closed then ends else more
step sign.Close inside closed more next ends = if inside then ends else more
step sign.Comma inside closed more next ends = if inside then next else more
step other inside closed more next ends = more

-- The pieces of what is left, outside braces or inside, with these parts of the piece before it and this part of it begun. A piece is a list of parts: those between `{`, `,` and `}`, or what stands outside braces as the only part. A `{` that no `}` closes or that stands inside braces, and a `}` or `,` outside, is itself.
abbrev pub pieces_of : Bool → List (List Token) → List Token → List Token → List (List (List Token))
pieces_of inside parts part [] = (parts ++ part ∷ []) ∷ []
pieces_of inside parts part (t ∷ ts) =
    step t.sign inside (has_close ts)
    (pieces_of inside parts (part ++ t ∷ []) ts)
    (pieces_of inside (parts ++ part ∷ []) [] ts)
    ((parts ++ part ∷ []) ∷ pieces_of (not inside) [] [] ts)

-- each of the first, followed by each of the second
abbrev pub each_then : List (List Token) → List (List Token) → List (List Token)
each_then firsts seconds = flat_map (λ first. map (λ second. first ++ second) seconds) firsts

-- the alternatives: one part of each piece, one after another
abbrev pub alternatives_of : List (List (List Token)) → List (List Token)
alternatives_of [] = [] ∷ []
alternatives_of (parts ∷ pieces) = each_then parts (alternatives_of pieces)
