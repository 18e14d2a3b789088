-- What a crash leaves of a store while a pair is added.
use Rattle.std.specs.Prelude.{◌≡◌, ◌⊎◌, ℕ, List, [], ◌∷◌, ◌++◌, Some}
use Rattle.cache_api.specs.Pairs.{Pair}
use Rattle.artifact_store.specs.Pairs.{stands_for}

-- it stands for what one of these images stands for, or for its pairs and the new one behind them
abbrev pub IsLeftBy : (List ℕ → Type 0) → Pair → List ℕ → Type 0
IsLeftBy images pair c = (d : List ℕ) × images d × ((stands_for c ≡ stands_for d)
    ⊎ ((ps : List Pair) × (stands_for d ≡ Some ps) × (stands_for c ≡ Some (ps ++ pair ∷ []))))
