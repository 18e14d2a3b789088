-- A call that only reads the cache below.
use Rattle.std.proofs.Common.{◌≡◌, ℕ, ◌≤◌, List, ◌++◌, length, subst}
use Rattle.cache_api.specs.declared.cache.Cache.{Ghosts}
use Rattle.cache_api.specs.Cache.{CacheReads, due_in}
use Rattle.cache_api.specs.Moments.{leaves_more}
use Rattle.cache_api.specs.Pairs.{Pair, LacksKey}
use Rattle.cache_api.proofs.Firsts.{part_more}
use Rattle.cache_api.proofs.Lacking.{lacks_parts}
use Rattle.held_results.specs.declared.held.Held.{Held}
use Rattle.held_results.specs.Held.{held_pairs, state_of}
use Rattle.held_results.specs.Laws.{held_due}

module _ {C : Type 0} {G : Ghosts C} (old : Held C G) (within : G.tells → (G.state old.inner).lasting ≤ length (G.state old.inner).pairs) where
  pub held_reads : (new : Held C G) → held_pairs new ≡ held_pairs old
      → CacheReads G.tells G.state G.cost G.stands G.shows G.moment G.left G.says old.inner new.inner
      → CacheReads G.tells (state_of {G = G}) (λ h. G.cost h.inner) (λ h. G.stands h.inner) (λ h. G.shows h.inner)
      (λ h. G.moment h.inner) (λ h. G.left h.inner) G.says old new
  held_reads new same x = record {
    pairs = λ told i. x.pairs told i ++ same i;
    lasting = x.lasting;
    sure = x.sure;
    cost_same = x.cost_same;
    hits = record { stays = x.hits.stays; same = x.hits.same };
    left = λ told. leaves_more G.moment G.left old.inner new.inner _ _ (x.left told)
        (λ image part. part_more _ _ _ _ (within told) part);
    keeps = record { base = x.keeps.base; room = x.keeps.room; probes = x.keeps.probes };
  }

  -- the key is neither due below nor held back
  pub lacks_each : (key : List ℕ) → G.tells → LacksKey key (due_in (state_of old))
      → LacksKey key (due_in (G.state old.inner)) × LacksKey key (held_pairs old)
  lacks_each key told lacks =
      lacks_parts key _ (held_pairs old) (subst (λ (ps : List Pair). LacksKey key ps) (held_due old (within told)) lacks)
