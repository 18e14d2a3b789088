-- What is there once what was due was put.
use Rattle.std.proofs.Common.{◌≡◌, List, [], ◌++◌, take, ap, ◌∙◌}
use Rattle.std.proofs.lemmas.List.{append-nil}
use Rattle.cache_api.specs.declared.cache.Cache.{Ghosts}
use Rattle.cache_api.specs.Pairs.{Pair, AreFirst}
use Rattle.held_results.specs.declared.held.Held.{Held}
use Rattle.held_results.specs.Held.{state_of}

-- the cache below is `now`, and nothing is held back any more
module _ {C : Type 0} {G : Ghosts C} (old : Held C G) (now : C) (held : List Pair) (none : held ≡ []) where
  alone : (pairs : List Pair) → pairs ++ held ≡ pairs
  alone pairs = ap (λ (ps : List Pair). pairs ++ ps) none ∙ append-nil pairs

  pub after_ok : (put all : List Pair) → put ≡ all → (G.state now).pairs ≡ put → (G.state now).pairs ++ held ≡ all
  after_ok put all same after = alone (G.state now).pairs ∙ after ∙ same

  pub after_failed : (put all : List Pair) → put ≡ all → AreFirst (G.state old.inner).lasting put (G.state now).pairs
      → AreFirst (state_of old).lasting all ((G.state now).pairs ++ held)
  after_failed put all same (n, at, is) =
      (n, at, alone (G.state now).pairs ∙ is ∙ ap (λ (ps : List Pair). take n ps) same)
