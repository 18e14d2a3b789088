-- Members by their places.
use Rattle.std.proofs.Common.{◌≡◌, ◌<◌, ℕ, zero, suc, List, [], ◌∷◌, take, subst, arith}
use Rattle.std.specs.Prelude.{Some}
use Rattle.std.specs.List.{AllByRecursion, slice_get}

pub from_some : {X : Type 0} (x y : X) → Some x ≡ Some y → x ≡ y
from_some x y e = cc

pub all_at : {X : Type 0} (P : X → Type 0) (xs : List X) (place : ℕ) (x : X) → AllByRecursion P xs → slice_get xs place ≡ Some x → P x
all_at P [] place x all at = cc
all_at P (y ∷ xs) zero x all at = subst P (from_some y x at) all.0
all_at P (y ∷ xs) (suc place) x all at = all_at P xs place x all.1 at

-- of the members before a place
pub all_before : {X : Type 0} (P : X → Type 0) (xs : List X) (count place : ℕ) (x : X) → AllByRecursion P (take count xs) → place < count → slice_get xs place ≡ Some x → P x
all_before P [] count place x all less at = cc
all_before P (y ∷ xs) zero place x all less at = absurd (omega arith)
all_before P (y ∷ xs) (suc count) zero x all less at = subst P (from_some y x at) all.0
all_before P (y ∷ xs) (suc count) (suc place) x all less at = all_before P xs count place x all.1 (omega arith) at
