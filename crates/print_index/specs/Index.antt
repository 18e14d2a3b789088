-- What contracts see of an index.
use Rattle.std.specs.Prelude.{ℕ, List}

-- the digest of each number, and how many more can be pushed with no memory taken
pub record Index : Type 0 where
  pub digests : List (List ℕ)
  pub room : ℕ
