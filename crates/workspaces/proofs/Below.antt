-- Folders below folders.
use Rattle.std.proofs.Common.{◌≡◌, Bool, true, false, [], ◌∷◌, refl, sym}
use Rattle.std.specs.Prelude.{Option, Some, None, IsTrue, ◌↔◌}
use Rattle.std.proofs.lemmas.Bool.{false≢true}
use Rattle.rel_path.specs.Paths.{Path, strip, IsBelow}
use Rattle.rel_path.proofs.PathLaws.{strip_is, strip_append}
use Rattle.workspaces.specs.Space.{is_proper, lies_below}

both_ways : (s t : Bool) → (s ≡ true → t ≡ true) → (t ≡ true → s ≡ true) → s ≡ t
both_ways true t f g = sym (f refl)
both_ways false true f g = g refl
both_ways false false f g = refl

pub below_lies : (path folder : Path) → IsBelow path folder → lies_below path folder ≡ true
below_lies path folder (name, names, is) = rw (is, strip_append folder (name ∷ names)) refl

pub lies_is : (path folder : Path) → lies_below path folder ≡ true → IsBelow path folder
lies_is path folder lies = by (strip folder path) refl lies where
  by : (o : Option Path) → strip folder path ≡ o → is_proper o ≡ true → IsBelow path folder
  by None e proper = absurd (false≢true proper)
  by (Some []) e proper = absurd (false≢true proper)
  by (Some (name ∷ names)) e proper = (name, names, strip_is folder path (name ∷ names) e)

pub below_is : (path folder : Path) (r : Bool) → IsTrue r ↔ IsBelow path folder → r ≡ lies_below path folder
below_is path folder r tells = both_ways r (lies_below path folder) (λ is. below_lies path folder (tells.0 is)) (λ lies. tells.1 (lies_is path folder lies))
