-- The numbers of the pairs that a run puts itself.
use Rattle.std.specs.Prelude.{ℕ, zero, suc, ◌+◌, List, [], ◌∷◌}
use Rattle.cache_api.specs.declared.puts.Put.{Put}
use Rattle.cache_api.specs.declared.puts.Put.TheVariants.{Stored, Full}

-- so many numbers, from that one on
abbrev pub numbers_on : ℕ → ℕ → List ℕ
numbers_on from zero = []
numbers_on from (suc count) = from ∷ numbers_on (from + 1) count

-- how many pairs were put
abbrev pub stored_in : List Put → ℕ
stored_in [] = 0
stored_in (Stored ∷ puts) = suc (stored_in puts)
stored_in (Full ∷ puts) = stored_in puts
