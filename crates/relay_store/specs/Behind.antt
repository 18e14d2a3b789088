-- What stands behind pairs in a list of pairs.
use Rattle.std.specs.Prelude.{Bool, ◌&&◌, if◌then◌else◌, List, [], ◌∷◌, ◌++◌, Option, Some, None}
use Rattle.rel_path.specs.Paths.{name_eq}
use Rattle.cache_api.specs.Pairs.{Pair}

-- the same key and the same value
abbrev pub pair_eq : Pair → Pair → Bool
pair_eq a b = name_eq a.0 b.0 && name_eq a.1 b.1

-- the pairs behind these in a list that begins with them, and nothing where it does not
abbrev pub behind : List Pair → List Pair → Option (List Pair)
behind [] pairs = Some pairs
behind (p ∷ first) [] = None
behind (p ∷ first) (q ∷ pairs) = if pair_eq p q then behind first pairs else None

-- these pairs with others behind them, where there are others
abbrev pub followed : List Pair → Option (List Pair) → Option (List Pair)
followed all None = None
followed all (Some more) = Some (all ++ more)

-- where pairs begin with some, all in place of these and then the rest
abbrev pub in_place : List Pair → List Pair → Option (List Pair) → Option (List Pair)
in_place all first None = None
in_place all first (Some pairs) = followed all (behind first pairs)
