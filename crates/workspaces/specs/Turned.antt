-- Edges as rows, and turned round: the row of each place lists those that lead to it.
use Rattle.std.specs.Prelude.{ℕ, ◌≡◌, ◌<◌, ◌++◌, if◌then◌else◌, List, [], ◌∷◌, length}
use Rattle.workspaces.specs.Lists.{places}
use Rattle.workspaces.specs.Reach.{is_in, row_at}

-- the user stands in the row of each of these places, behind what was there
abbrev pub Pushed : List ℕ → ℕ → List (List ℕ) → List (List ℕ) → Type 0
Pushed used user old new = (q : ℕ) → row_at new q ≡ row_at old q ++ (if is_in used q then user ∷ [] else [])

abbrev pub are_empty : List (List ℕ) → Type 0
are_empty rows = (q : ℕ) → row_at rows q ≡ []

-- each place has the rows that hold it
abbrev pub Turned : List (List ℕ) → List (List ℕ) → Type 0
Turned rows users = (q : ℕ) → q < length users → row_at users q ≡ places (λ row. is_in row q) rows
