-- Lists in ascending order, and the places of what passes a test.
use Rattle.std.specs.Prelude.{ℕ, ◌≡◌, ◌⊎◌, zero, suc, Bool, false, List, [], ◌∷◌, map, if◌then◌else◌}
use Rattle.std.specs.declared.cmp.Ordering.{Ordering}
use Rattle.std.specs.Ordering.{match_ordering}

-- x at its place in an ascending list; where it is there already, the list is as before
abbrev pub put_in : {X : Type 0} → (X → X → Ordering) → X → List X → List X
put_in cmp x [] = x ∷ []
put_in cmp x (y ∷ ys) = match_ordering (cmp x y) (x ∷ y ∷ ys) (y ∷ ys) (y ∷ put_in cmp x ys)

-- the members of a list, ascending, each once
unfoldable pub ascending : {X : Type 0} → (X → X → Ordering) → List X → List X
ascending cmp [] = []
ascending cmp (x ∷ xs) = put_in cmp x (ascending cmp xs)

-- the places of the members that pass
unfoldable pub places : {X : Type 0} → (X → Bool) → List X → List ℕ
places test [] = []
places test (x ∷ xs) = if test x then zero ∷ map suc (places test xs) else map suc (places test xs)

-- the member at a place passes
abbrev pub passes_at : {X : Type 0} → (X → Bool) → List X → ℕ → Bool
passes_at test [] place = false
passes_at test (x ∷ xs) zero = test x
passes_at test (x ∷ xs) (suc place) = passes_at test xs place

-- x is one of the members
abbrev pub Has : {X : Type 0} → List X → X → Type 0
Has [] x = ⊥
Has (y ∷ ys) x = (y ≡ x) ⊎ Has ys x
