-- The signs of what is left, outside a class or inside one.
use Rattle.std.proofs.Common.{◌≡◌, Bool, true, false, List, [], ◌∷◌, ◌++◌, refl, ap, append_assoc}
use Rattle.std.specs.Prelude.{Option, Some, None}
use Rattle.glob_syntax.specs.declared.mark.Mark.{Mark}
use Rattle.ignore_rules.specs.declared.sign.Sign.{Sign}
use Rattle.ignore_rules.specs.Signs.{sign_onto}

-- inside a class with this behind its `[`, or outside
abbrev pub class_state : Bool → List Mark → Option (List Mark)
class_state true body = Some body
class_state false body = None

-- signs in front of the others, where there are any
abbrev pub all_onto : List Sign → Option (List Sign) → Option (List Sign)
all_onto front None = None
all_onto front (Some signs) = Some (front ++ signs)

pub all_onto-nothing : (signs : Option (List Sign)) → all_onto [] signs ≡ signs
all_onto-nothing None = refl
all_onto-nothing (Some signs) = refl

pub all_onto-push : (front : List Sign) (s : Sign) (signs : Option (List Sign)) → all_onto front (sign_onto s signs) ≡ all_onto (front ++ s ∷ []) signs
all_onto-push front s None = refl
all_onto-push front s (Some signs) = ap Some (rw append_assoc refl)
