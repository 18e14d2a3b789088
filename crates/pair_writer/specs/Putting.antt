-- Pairs that are put as frames where they fit.
use Rattle.std.specs.Prelude.{◌≡◌, ◌<◌, ℕ, Bool, true, false, List, [], ◌∷◌, ◌++◌, map}
use Rattle.cache_api.specs.declared.puts.NewPair.{NewPair}
use Rattle.cache_api.specs.declared.puts.Put.{Put}
use Rattle.cache_api.specs.declared.puts.Put.TheVariants.{Stored, Full}
use Rattle.cache_api.specs.Artifacts.{artifact}
use Rattle.cache_api.specs.Keys.{text_of}
use Rattle.cache_api.specs.Pairs.{Pair, pair_for}
use Rattle.cache_api.specs.Cache.{ample}
use Rattle.record_log.specs.Kinds.{Entry}
use Rattle.pair_frames.specs.Steps.{added_behind, fit_behind}
use Rattle.pair_writer.specs.declared.staged.Staged.{Staged}
use Rattle.pair_writer.specs.Staged.{entries}

-- the answer for a pair, by whether it fits
abbrev pub put_of : Bool → Put
put_of true = Stored
put_of false = Full

-- the pair that is to be put
abbrev pub new_pair : NewPair → Pair
new_pair p = pair_for (text_of p.key) (artifact p.artifact.now)

-- its frames are staged where they fit in what the room leaves, and the answer says it
pub record IsOffered (room : ℕ) (fs : List Entry) (s t : Staged) (pair : Pair) (put : Put)
    : Type 0 where
  pub frames : entries t ≡ entries s ++ added_behind room fs (entries s) (pair ∷ [])
  pub answer : put ∷ [] ≡ map put_of (fit_behind room fs (entries s) (pair ∷ []))

-- there is less room than a pair may want where that is the answer
abbrev pub IsShortOf : Put → ℕ → Pair → Type 0
IsShortOf Stored room pair = Unit {0}
IsShortOf Full room pair = room < ample pair
