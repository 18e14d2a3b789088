-- A list that is made of the items of others, each of them in its order.
use Rattle.std.specs.Prelude.{◌≡◌, ℕ, ◌==◌, List, map, filter}
use Rattle.cache_api.specs.Pairs.{Pair}

-- Each pair of the list can be given the number of one of the lists so that those of one number, in
-- order, are the whole list of that number.
pub record IsInterleaving (lists : ℕ → List Pair) (pairs : List Pair) : Type 0 where
  pub numbered : List (ℕ × Pair)
  pub pairs_are : map (λ n. n.1) numbered ≡ pairs
  pub lists_are : (i : ℕ) → map (λ n. n.1) (filter (λ n. n.0 == i) numbered) ≡ lists i
