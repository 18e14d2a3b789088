-- The components of tokens, of which the first has begun.
use Rattle.std.proofs.Common.{◌≡◌, Bool, true, false, List, [], ◌∷◌, ◌++◌, refl, ap, append_assoc, cond, Option, Some, None}
use Rattle.std.specs.List.{onto_first, filter_map}
use Rattle.std.specs.Option.{option_to_list}
use Rattle.std.specs.List.{cons_option}
use Rattle.std.proofs.lemmas.List.{append-nil}
use Rattle.glob_syntax.specs.declared.part.Part.{Part}
use Rattle.glob_syntax.specs.Parts.{part_of}
use Rattle.glob_syntax.specs.declared.token.Token.{Token}
use Rattle.glob_syntax.specs.Climbs.{is_slash_token, components_of}

-- the tokens in front of the first component
abbrev pub with_front : List Token → List (List Token) → List (List Token)
with_front front [] = front ∷ []
with_front front (component ∷ components) = (front ++ component) ∷ components

with_front-nil-onto : (t : Token) (components : List (List Token)) → with_front [] (onto_first t components) ≡ onto_first t components
with_front-nil-onto t [] = refl
with_front-nil-onto t (component ∷ components) = refl

pub with_front-nil : (tokens : List Token) → with_front [] (components_of tokens) ≡ components_of tokens
with_front-nil [] = refl
with_front-nil (t ∷ ts) = by (is_slash_token t)
  where
    by : (slash : Bool) → with_front [] (cond slash ([] ∷ components_of ts) (onto_first t (components_of ts))) ≡ cond slash ([] ∷ components_of ts) (onto_first t (components_of ts))
    by true = refl
    by false = with_front-nil-onto t (components_of ts)

pub with_front-onto : (front : List Token) (t : Token) (components : List (List Token)) → with_front front (onto_first t components) ≡ with_front (front ++ t ∷ []) components
with_front-onto front t [] = refl
with_front-onto front t (component ∷ components) = ap (λ (c : List Token). c ∷ components) (rw append_assoc refl)

-- the parts of what is left, where the next token ends the component or goes on with it
pub parts-slash : (front : List Token) (t : Token) (ts : List Token) → is_slash_token t ≡ true → filter_map part_of (with_front front (components_of (t ∷ ts))) ≡ option_to_list (part_of front) ++ filter_map part_of (with_front [] (components_of ts))
parts-slash front t ts e = rw (e, append-nil front, with_front-nil ts) (consed (part_of front) (filter_map part_of (components_of ts)))
  where
    consed : (part : Option Part) (parts : List Part) → cons_option part parts ≡ option_to_list part ++ parts
    consed None parts = refl
    consed (Some part) parts = refl

pub parts-other : (front : List Token) (t : Token) (ts : List Token) → is_slash_token t ≡ false → with_front front (components_of (t ∷ ts)) ≡ with_front (front ++ t ∷ []) (components_of ts)
parts-other front t ts e = rw e (with_front-onto front t (components_of ts))
