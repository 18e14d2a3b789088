-- Lists as sets, and least sets, as tests.
use Rattle.std.specs.Prelude.{◌≡◌, ◌⊎◌, List, [], ◌∷◌, Bool, true}

-- the list has the element
abbrev pub Has : {X : Type 0} → List X → X → Type 0
Has [] x = ⊥
Has (y ∷ ys) x = (y ≡ x) ⊎ Has ys x

-- what the one test takes, the other takes
abbrev pub Within : {X : Type 0} → (X → Bool) → (X → Bool) → Type 0
Within {X} few many = (x : X) → few x ≡ true → many x ≡ true

-- the least test that is closed
abbrev pub IsLeast : {X : Type 0} → ((X → Bool) → Type 0) → (X → Bool) → Type 0
IsLeast {X} IsClosed set = IsClosed set × ((other : X → Bool) → IsClosed other → Within set other)
