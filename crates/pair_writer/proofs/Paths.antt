-- The path of a text.
use Rattle.std.proofs.Common.{◌≡◌, ◌≢◌, ℕ, Bool, true, false, cond, List, [], ◌∷◌, length, Option, Some, None, refl, subst}
use Rattle.std.specs.Prelude.{◌==◌}
use Rattle.rel_path.specs.declared.error.PathErr.{PathErr}
use Rattle.rel_path.specs.declared.error.PathErr.TheVariants.{Empty}
use Rattle.rel_path.specs.Paths.{Path, AreNames, parts_of, text_fault, first_fault}
use Rattle.rel_path.proofs.Parts.{read-AreNames}

later_none : (empty : Bool) (later : Option PathErr) → cond empty (Some Empty) later ≡ None
    → later ≡ None
later_none true later none = absurd cc
later_none false later none = none

-- the components of a path whose text reads back
pub names_of : (path : Path) (text : List ℕ)
    → (path ≢ [] → (text_fault text ≡ None) × (parts_of text ≡ path)) → AreNames path
names_of [] text back = refl
names_of (name ∷ names) text back =
    let read = back (λ root. absurd cc) in
    subst AreNames read.1
    (read-AreNames text (later_none (length text == 0) (first_fault (parts_of text)) read.0))
