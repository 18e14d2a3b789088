-- Stores that follow one another by runs and compactions.
use Rattle.std.specs.Prelude.{◌≡◌, ◌⊎◌, ℕ, List, [], ◌∷◌, ◌++◌, Option, All}
use Rattle.cache_api.specs.Pairs.{Pair}
use Rattle.compact.specs.Chosen.{chosen}

-- a run adds good pairs behind the others
pub record AddsGood (Good : Pair → Type 0) (old new : List Pair) : Type 0 where
  pub added : List Pair
  pub is : new ≡ old ++ added
  pub good : All Good added

-- a compaction keeps the chosen ones, for some number or without one
pub record IsCompacted (old new : List Pair) : Type 0 where
  pub keep : Option ℕ
  pub is : new ≡ chosen old keep

-- these lists follow that one, each by a run over the one before it, or by its compaction
abbrev pub IsChain : (Pair → Type 0) → List Pair → List (List Pair) → Type 0
IsChain Good last [] = Unit {0}
IsChain Good last (pairs ∷ later) =
    (AddsGood Good last pairs ⊎ IsCompacted last pairs) × IsChain Good pairs later

-- Where the first list is empty, all have good pairs alone.
abbrev pub ChainLaw : (Pair → Type 0) → Type 0
ChainLaw Good = (chain : List (List Pair)) → IsChain Good [] chain
    → All (λ pairs. All Good pairs) chain
