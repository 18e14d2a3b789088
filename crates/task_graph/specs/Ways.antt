-- Ways over the numbers that are left.
use Rattle.std.specs.Prelude.{ℕ, ◌≡◌, ◌<◌, ◌==◌, Bool, true, false, List, [], ◌∷◌, ◌++◌, Some, find, if◌then◌else◌}
use Rattle.workspaces.specs.Reach.{is_in, row_at}
use Rattle.task_graph.specs.Cycles.{IsWay}

-- the least that passes
pub record IsLeastNumber (test : ℕ → Bool) (n : ℕ) : Type 0 where
  pub passes : test n ≡ true
  pub least : (q : ℕ) → q < n → test q ≡ false

-- from the number on
abbrev pub from_first : ℕ → List ℕ → List ℕ
from_first n [] = []
from_first n (x ∷ xs) = if x == n then x ∷ xs else from_first n xs

-- the first of a row that is left
abbrev pub StepsOn : List (List ℕ) → (ℕ → Bool) → ℕ → ℕ → Type 0
StepsOn rows left a b = find left (row_at rows a) ≡ Some b

abbrev pub AreOnce : List ℕ → Type 0
AreOnce [] = Unit {0}
AreOnce (n ∷ ns) = (is_in ns n ≡ false) × AreOnce ns

-- a way over what is left
abbrev pub IsWayOn : List (List ℕ) → (ℕ → Bool) → List ℕ → Type 0
IsWayOn rows left way = IsWay (IsLeastNumber left) (StepsOn rows left) way

-- the way comes back to the first of these
pub record Circles (rows : List (List ℕ)) (left : ℕ → Bool) (cycle : List ℕ) : Type 0 where
  pub front : List ℕ
  pub first : ℕ
  pub rest : List ℕ
  pub is : cycle ≡ first ∷ rest
  pub way : IsWayOn rows left (front ++ first ∷ rest ++ first ∷ [])
  pub apart : AreOnce (front ++ first ∷ rest)
