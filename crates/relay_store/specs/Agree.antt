-- What the two stores of a relay have behind the pairs that they had at first.
use Rattle.std.specs.Prelude.{◌≡◌, ℕ, Bool, true, false, ◌&&◌, if◌then◌else◌, List, [], ◌++◌, take}
use Rattle.std.specs.Prelude.{length}
use Rattle.store_dev.specs.declared.device.StoreDevice.{Ghosts}
use Rattle.cache_api.specs.Pairs.{Pair}
use Rattle.cli_words.specs.declared.order.Access.{Access}
use Rattle.relay_store.specs.declared.part.Part.{Part}
use Rattle.relay_store.specs.Parts.{more_of}

-- the first pairs of both: a store that is put into locally is looked into first, so its pairs
-- stand last
abbrev pub firsts : Bool → List Pair → List Pair → List Pair
firsts local_puts local second = if local_puts then second ++ local else local ++ second

-- what the store that is looked into first has behind its first pairs
abbrev pub later : Bool → List Pair → List Pair → List Pair
later local_puts local second = if local_puts then local else second

-- A store that is not put into has nothing behind its first pairs. Those that are have the same,
-- and it is so many pairs.
pub record Agree {S R : Type 0} {G : Ghosts S} {H : Ghosts R} (access : Access) (count : ℕ)
    (local : Part S G) (second : Part R H) : Type 0 where
  pub local_none : access.local_puts ≡ false → more_of local ≡ []
  pub second_none : access.second_puts ≡ false → more_of second ≡ []
  pub same : (access.local_puts && access.second_puts) ≡ true → more_of second ≡ more_of local
  pub counted : count ≡ length (later access.local_puts (more_of local) (more_of second))

-- What the local store has behind its first pairs, the second one has too, in the same order:
-- pairs are put into it first.
abbrev pub Leads : List Pair → List Pair → Type 0
Leads local second = take (length local) second ≡ local
