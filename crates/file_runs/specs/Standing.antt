-- How the pairs that a run added stand in a file to which other runs append too.
use Rattle.std.specs.Prelude.{◌≡◌, ℕ, List, [], ◌∷◌, ◌++◌, Some, ⊤}
use Rattle.cache_api.specs.Pairs.{Pair}
use Rattle.artifact_store.specs.Pairs.{stands_for}

-- The pairs stand in the list in their order, each behind the one before it, with others between
-- them perhaps.
abbrev pub StandIn : List Pair → List Pair → Type 0
StandIn [] list = ⊤
StandIn (pair ∷ pairs) list = (others : List Pair) × (rest : List Pair)
    × (list ≡ others ++ pair ∷ rest) × StandIn pairs rest

-- The bytes are a store. Its pairs are those that it had first, and then newer ones, among which
-- the run's stand in their order; the others are those that other runs appended meanwhile.
pub record HoldsAdded (before added : List Pair) (bytes : List ℕ) : Type 0 where
  pub newer : List Pair
  pub pairs_are : stands_for bytes ≡ Some (before ++ newer)
  pub stand : StandIn added newer
