-- Lists one for one.
use Rattle.std.proofs.Common.{◌≡◌, suc, List, [], ◌∷◌, length, refl, ap}
use Rattle.collect.specs.Listings.{ArePaired}

-- where each has one partner at most there is one list of them
pub one_pairing : {X Y : Type 0} (R : X → Y → Type 0) → ((x : X) (y z : Y) → R x y → R x z → y ≡ z) → (xs : List X) (ys zs : List Y) → ArePaired R xs ys → ArePaired R xs zs → ys ≡ zs
one_pairing R one [] [] [] a b = refl
one_pairing R one [] [] (z ∷ zs) a b = absurd b
one_pairing R one [] (y ∷ ys) zs a b = absurd a
one_pairing R one (x ∷ xs) [] zs a b = absurd a
one_pairing R one (x ∷ xs) (y ∷ ys) [] a b = absurd b
one_pairing R one (x ∷ xs) (y ∷ ys) (z ∷ zs) a b = let head = one x y z a.0 b.0 in let tail = one_pairing R one xs ys zs a.1 b.1 in λ j. head j ∷ tail j

pub pairing_length : {X Y : Type 0} (R : X → Y → Type 0) (xs : List X) (ys : List Y) → ArePaired R xs ys → length ys ≡ length xs
pairing_length R [] [] a = refl
pairing_length R [] (y ∷ ys) a = absurd a
pairing_length R (x ∷ xs) [] a = absurd a
pairing_length R (x ∷ xs) (y ∷ ys) a = ap suc (pairing_length R xs ys a.1)
