-- Lists that stand one after another.
use Rattle.std.specs.Prelude.{ℕ, List, [], ◌∷◌, take, drop}

-- cut into lists of these lengths
abbrev pub cut_by : {A : Type 0} → List ℕ → List A → List (List A)
cut_by [] xs = []
cut_by (n ∷ ns) xs = take n xs ∷ cut_by ns (drop n xs)
