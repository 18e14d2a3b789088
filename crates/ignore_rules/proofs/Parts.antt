-- The components of signs, of which the first has begun.
use Rattle.std.proofs.Common.{◌≡◌, Bool, false, not, List, [], ◌∷◌, ◌++◌, refl, ap, append_assoc}
use Rattle.std.specs.List.{flat_map}
use Rattle.glob_syntax.specs.declared.atom.Atom.{Atom}
use Rattle.glob_syntax.specs.declared.part.Part.{Part}
use Rattle.ignore_rules.specs.declared.sign.Sign.{Sign}
use Rattle.ignore_rules.specs.declared.sign.Sign.TheVariants as sign
use Rattle.ignore_rules.specs.Parts.{onto_first, components_of, parts_written}

-- the atoms in front of the first component
abbrev pub with_front : List Atom → List (List Atom × Bool) → List (List Atom × Bool)
with_front front [] = []
with_front front (component ∷ components) = (front ++ component.0, component.1) ∷ components

-- the parts of what is left, behind these atoms of a component
abbrev pub parts_behind : List Atom → List Sign → List Part
parts_behind front signs = flat_map parts_written (with_front front (components_of signs))

front_nil : (components : List (List Atom × Bool)) → with_front [] components ≡ components
front_nil [] = refl
front_nil (component ∷ components) = refl

pub behind_nothing : (signs : List Sign) → parts_behind [] signs ≡ flat_map parts_written (components_of signs)
behind_nothing signs = ap (λ (components : List (List Atom × Bool)). flat_map parts_written components) (front_nil (components_of signs))

front_onto : (front : List Atom) (a : Atom) (components : List (List Atom × Bool)) → with_front front (onto_first a components) ≡ with_front (front ++ a ∷ []) components
front_onto front a [] = refl
front_onto front a (component ∷ components) = rw append_assoc refl

-- the next sign goes on with the component
pub behind_atom : (front : List Atom) (a : Atom) (signs : List Sign) → parts_behind front (sign.Atom a ∷ signs) ≡ parts_behind (front ++ a ∷ []) signs
behind_atom front a signs = ap (λ (components : List (List Atom × Bool)). flat_map parts_written components) (front_onto front a (components_of signs))

append_nil : {X : Type 0} (xs : List X) → xs ++ [] ≡ xs
append_nil [] = refl
append_nil {X = X} (x ∷ xs) = ap (λ (rest : List X). x ∷ rest) (append_nil xs)

-- the next sign ends it, and there is one more behind it
pub behind_slash : (front : List Atom) (quoted : Bool) (signs : List Sign) → parts_behind front (sign.Slash quoted ∷ signs) ≡ parts_written (front, not quoted) ++ parts_behind [] signs
behind_slash front quoted signs = rw (append_nil front, behind_nothing signs) refl

-- nothing is left
pub behind_end : (front : List Atom) → parts_behind front [] ≡ parts_written (front, false)
behind_end front = rw (append_nil front) (append_nil (parts_written (front, false)))
