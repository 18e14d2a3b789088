-- The folder of a path, by its last name.
use Rattle.std.proofs.Common.{◌≡◌, ◌++◌, ◌∷◌, [], List, ℕ, Bool, true, false, not, refl, ap}
use Rattle.std.specs.Prelude.{Some, None, bytes_eq}
use Rattle.std.specs.Option.{option_map}
use Rattle.rel_path.specs.Paths.{Path}
use Rattle.workspaces.specs.Space.{manifest_name, folder_of}

pub other_last : (above : Path) (last : List ℕ) → bytes_eq last manifest_name ≡ false → folder_of (above ++ last ∷ []) ≡ None
other_last [] last other = rw other refl
other_last (name ∷ []) last other = rw other refl
other_last (name ∷ next ∷ above) last other = ap (option_map (λ folder. name ∷ folder)) (other_last (next ∷ above) last other)

pub manifest_last : (above : Path) (last : List ℕ) → bytes_eq last manifest_name ≡ true → folder_of (above ++ last ∷ []) ≡ Some above
manifest_last [] last is = rw is refl
manifest_last (name ∷ []) last is = rw is refl
manifest_last (name ∷ next ∷ above) last is = ap (option_map (λ folder. name ∷ folder)) (manifest_last (next ∷ above) last is)

pub not_true : (t : Bool) → not t ≡ true → t ≡ false
not_true true e = cc
not_true false e = refl

pub not_false : (t : Bool) → not t ≡ false → t ≡ true
not_false true e = refl
not_false false e = cc
