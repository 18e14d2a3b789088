-- What is reached over at least one edge: the least set that is closed.
use Rattle.std.specs.Prelude.{ℕ, zero, suc, ◌≡◌, ◌==◌, ◌<◌, Bool, true, List, [], ◌∷◌}
use Rattle.std.specs.List.{list_any, AllByRecursion}
use Rattle.std.specs.List.Sorted.{IsStrictlySortedBy}
use Rattle.std.specs.Ordering.{nat_cmp}

-- what the one test takes, the other takes
abbrev pub Within : {X : Type 0} → (X → Bool) → (X → Bool) → Type 0
Within {X} few many = (x : X) → few x ≡ true → many x ≡ true

-- the least test that is closed
abbrev pub IsLeast : {X : Type 0} → ((X → Bool) → Type 0) → (X → Bool) → Type 0
IsLeast {X} IsClosed set = IsClosed set × ((other : X → Bool) → IsClosed other → Within set other)

abbrev pub is_in : List ℕ → ℕ → Bool
is_in places p = list_any (λ q. q == p) places

-- what the edges of these places, and of each place of the set, lead to is in the set
pub record IsClosed (leads : ℕ → ℕ → Bool) (from : List ℕ) (set : ℕ → Bool) : Type 0 where
  pub start : (p q : ℕ) → is_in from p ≡ true → leads p q ≡ true → set q ≡ true
  pub more : (p q : ℕ) → set p ≡ true → leads p q ≡ true → set q ≡ true

-- exactly what at least one edge reaches, ascending
pub record IsReached (leads : ℕ → ℕ → Bool) (from found : List ℕ) : Type 0 where
  pub ascend : IsStrictlySortedBy nat_cmp found
  pub least : IsLeast (IsClosed leads from) (is_in found)

-- ---- edges as rows: the row of each place lists what it leads to

abbrev pub row_at : List (List ℕ) → ℕ → List ℕ
row_at [] place = []
row_at (row ∷ rows) zero = row
row_at (row ∷ rows) (suc place) = row_at rows place

abbrev pub leads_in : List (List ℕ) → ℕ → ℕ → Bool
leads_in rows p q = is_in (row_at rows p) q

abbrev pub AreBelow : ℕ → List ℕ → Type 0
AreBelow count places = AllByRecursion (λ place. place < count) places

abbrev pub AreRowsBelow : ℕ → List (List ℕ) → Type 0
AreRowsBelow count rows = AllByRecursion (AreBelow count) rows
