-- Which pairs are put where there are several stores to put them into.
use Rattle.std.specs.Prelude.{ℕ, ◌-◌, min, Bool, nat_le, if◌then◌else◌, List, [], ◌∷◌, ◌++◌, map}
use Rattle.std.specs.List.{list_all}
use Rattle.cache_api.specs.declared.puts.Put.{Put}
use Rattle.cache_api.specs.declared.puts.Put.TheVariants.{Stored, Full}
use Rattle.cache_api.specs.Cache.{ample}
use Rattle.cache_api.specs.Pairs.{Pair}
use Rattle.record_log.specs.Kinds.{Entry}
use Rattle.pair_frames.specs.Puts.{put_frames, put_size}

-- where pairs are put: the frames that stand there, and the room behind them
pub record Space : Type 0 where
  pub room : ℕ
  pub frames : List Entry

-- What a pair needs there. For texts, as a program has them, that is the size of its frames,
-- which never is more than is ample (`Laws.need_is`). Of what are no texts no more is said to be
-- needed.
abbrev pub need : Space → Pair → ℕ
need space pair = min (put_size space.frames pair) (ample pair)

abbrev pub takes : Pair → Space → Bool
takes pair space = nat_le (need space pair) space.room

-- behind the pair
abbrev pub filled : Pair → Space → Space
filled pair space = record {
  room = space.room - need space pair;
  frames = space.frames ++ put_frames space.frames pair;
}

-- One after another: a pair is stored where it fits behind those that were stored before it, in
-- each of the spaces, and else there is no room for it.
abbrev pub puts_in : List Space → List Pair → List Put
puts_in spaces [] = []
puts_in spaces (pair ∷ pairs) =
    if list_all (takes pair) spaces then Stored ∷ puts_in (map (filled pair) spaces) pairs
    else Full ∷ puts_in spaces pairs

-- the spaces behind those that were stored
abbrev pub spaces_behind : List Space → List Pair → List Space
spaces_behind spaces [] = spaces
spaces_behind spaces (pair ∷ pairs) =
    if list_all (takes pair) spaces then spaces_behind (map (filled pair) spaces) pairs
    else spaces_behind spaces pairs

-- all of them
abbrev pub all_stored : List Pair → List Put
all_stored pairs = map (λ pair. Stored) pairs
