-- What a pool knows once it learned the contents of frames that were appended.
use Rattle.std.specs.Prelude.{◌≡◌, ◌<◌, ℕ, ◌+◌, List, ◌++◌, length, get_or}
use Rattle.record_log.specs.Kinds.{Entry}
use Rattle.blob_pool.specs.declared.pool.Pool.{Pool}
use Rattle.blob_pool.specs.Known.{IsPoolOf, places_in, digests_in, count_in}

-- the frames of contents have numbers below that
abbrev pub PlacesBelow : Pool → ℕ → Type 0
PlacesBelow pool n = (i : ℕ) → i < count_in pool → get_or (places_in pool) i 0 < n

abbrev pub HasEven : Pool → Type 0
HasEven pool = length (digests_in pool) ≡ length (places_in pool)

-- The pool goes on from frames, of which there are so many, to these and others behind them.
pub record GoesOn (first : ℕ) (es : List Entry) (old new : Pool) : Type 0 where
  pub told : (fs : List Entry) → first ≡ length fs → IsPoolOf old fs → IsPoolOf new (fs ++ es)
  pub below : PlacesBelow old first → PlacesBelow new (first + length es)
  pub even : HasEven old → HasEven new
