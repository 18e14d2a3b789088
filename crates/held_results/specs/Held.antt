-- A cache that holds results back, as its contracts see it.
use Rattle.std.specs.Prelude.{◌&&◌, List, ◌++◌, length, drop}
use Rattle.cache_api.specs.declared.cache.Cache.{Ghosts}
use Rattle.cache_api.specs.declared.puts.Put.{Put}
use Rattle.cache_api.specs.Cache.{CacheState}
use Rattle.cache_api.specs.Pairs.{Pair}
use Rattle.held_results.specs.declared.held.Held.{Held}
use Rattle.held_results.specs.Due.{due_pairs}

module _ {C : Type 0} {G : Ghosts C} where
  abbrev pub below_of : Held C G → C
  below_of h = h.inner

  -- what is due
  abbrev pub held_pairs : Held C G → List Pair
  held_pairs h = due_pairs h.due.items

  -- The pairs of the cache below and behind them what is due, of which those of the cache below
  -- last. It may be used where the cache below may and no call failed that put what is due.
  abbrev pub state_of : Held C G → CacheState G.Base
  state_of h = record {
    pairs = (G.state h.inner).pairs ++ held_pairs h;
    lasting = (G.state h.inner).lasting;
    whole = h.whole && (G.state h.inner).whole;
    room = (G.state h.inner).room;
    sure = (G.state h.inner).sure;
    faults = (G.state h.inner).faults;
    probes = (G.state h.inner).probes;
    base = (G.state h.inner).base;
  }

  -- for which of these pairs there is room behind what is due
  abbrev pub stores : Held C G → List Pair → List Put
  stores h pairs = drop (length (held_pairs h)) (G.stores h.inner (held_pairs h ++ pairs))
