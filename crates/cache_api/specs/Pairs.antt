-- The pairs of a cache, and what a crash may leave of them.
use Rattle.std.specs.Prelude.{◌≡◌, ℕ, ◌≤◌, false, List, [], ◌∷◌, ◌++◌, length, take, drop, Option, Some}
use Rattle.rel_path.specs.Paths.{name_eq}
use Rattle.cache_api.specs.declared.puts.Put.{Put}
use Rattle.cache_api.specs.declared.puts.Put.TheVariants.{Stored, Full}
use Rattle.cache_api.specs.Artifacts.{Artifact, artifact_text}

-- a key with a value
abbrev pub Pair : Type 0
Pair = List ℕ × List ℕ

-- the pair that is put for a key and an artifact
abbrev pub pair_for : List ℕ → Artifact → Pair
pair_for key a = (key, artifact_text a)

-- the pairs that were put
abbrev pub chosen : List Pair → List Put → List Pair
chosen [] puts = []
chosen (pair ∷ pairs) [] = []
chosen (pair ∷ pairs) (Stored ∷ puts) = pair ∷ chosen pairs puts
chosen (pair ∷ pairs) (Full ∷ puts) = chosen pairs puts

-- no pair has that key: the whole key counts
abbrev pub LacksKey : List ℕ → List Pair → Type 0
LacksKey key [] = Unit {0}
LacksKey key (pair ∷ pairs) = (name_eq pair.0 key ≡ false) × LacksKey key pairs

-- what is still due of pairs of which so many last, the first ones
abbrev pub due_of : List Pair → ℕ → List Pair
due_of pairs lasting = drop lasting pairs

-- these are the first of the pairs: all that last, and none to all of those that are still due
abbrev pub AreFirst : ℕ → List Pair → List Pair → Type 0
AreFirst lasting pairs now = (n : ℕ) × (lasting ≤ n) × (now ≡ take n pairs)

-- a crash leaves the first of the pairs: all that last, and none to all of those that are still due
abbrev pub IsPartSince : ℕ → List Pair → Option (List Pair) → Type 0
IsPartSince lasting pairs left = (n : ℕ) × (lasting ≤ n) × (left ≡ Some (take n pairs))

-- a crash leaves these pairs with the first of the new ones behind them, none to all
abbrev pub IsFirstPart : List Pair → List Pair → Option (List Pair) → Type 0
IsFirstPart before added left =
    (n : ℕ) × (n ≤ length added) × (left ≡ Some (before ++ take n added))
