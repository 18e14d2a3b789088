-- The elements of a list at the places that pass a test, and the number that such a place has among them.
use Rattle.std.specs.Prelude.{ℕ, zero, suc, Bool, List, [], ◌∷◌, if◌then◌else◌, Option, Some, None}

-- the elements at the places that pass, in order
abbrev pub pick : {X : Type 0} → (ℕ → Bool) → List X → List X
pick keep [] = []
pick keep (x ∷ xs) = if keep zero then x ∷ pick (λ i. keep (suc i)) xs else pick (λ i. keep (suc i)) xs

-- how many places below this one pass
abbrev pub rank : (ℕ → Bool) → ℕ → ℕ
rank keep zero = zero
rank keep (suc i) = if keep i then suc (rank keep i) else rank keep i

abbrev pub last : {X : Type 0} → List X → Option X
last [] = None
last (x ∷ []) = Some x
last (x ∷ y ∷ xs) = last (y ∷ xs)
