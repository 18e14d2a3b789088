-- Lists in ascending order.
use Rattle.std.specs.Prelude.{◌≡◌, ℕ, true, List, [], ◌∷◌, ⊤}
use Rattle.std.specs.Ordering.{is_lt}
use Rattle.std.specs.List.{AllByRecursion}
use Rattle.rel_path.specs.Paths.{Path, path_cmp}

-- each element stands below all later ones
abbrev pub IsAscending : {X : Type 0} → (X → X → Type 0) → List X → Type 0
IsAscending R [] = ⊤
IsAscending R (x ∷ xs) = AllByRecursion (R x) xs × IsAscending R xs

-- one path goes before another, component by component
abbrev pub IsBefore : Path → Path → Type 0
IsBefore a b = is_lt (path_cmp a b) ≡ true

-- the paths of these files ascend, so that none stands twice
abbrev pub AscendByPath : List (Path × List ℕ) → Type 0
AscendByPath files = IsAscending (λ f g. IsBefore f.0 g.0) files
