-- A cache that was not called, since memory was wanting before that.
use Rattle.std.proofs.Common.{◌≤◌, List, length, Err, refl, arith}
use Rattle.cache_api.specs.declared.cache.Cache.{Ghosts}
use Rattle.cache_api.specs.declared.error.CacheErr.TheVariants.{OutOfMemory}
use Rattle.cache_api.specs.Calls.{keeps_none, stay_none}
use Rattle.cache_api.specs.Moments.{started}
use Rattle.cache_api.specs.Pairs.{Pair, IsPartSince}
use Rattle.cache_api.specs.Puts.{PutsAll}
use Rattle.cache_api.proofs.Firsts.{part_more}

module _ {C : Type 0} (G : Ghosts C) (news : List Pair) (cache : C)
    (within : G.tells → (G.state cache).lasting ≤ length (G.state cache).pairs)
    (rests : G.tells → (image : G.Image) → G.left cache (G.moment cache) image
    → IsPartSince (G.state cache).lasting (G.state cache).pairs (G.says (G.state cache).base image)) where
  pub none_put : PutsAll G news cache cache (Err OutOfMemory)
  none_put = record {
    outcome = λ told. tt;
    put = tt;
    pairs = λ told. refl;
    lasts = λ told. tt;
    lasting = λ told. omega arith;
    left = λ told. started G.moment G.left cache _
        (λ image at. part_more _ _ _ _ (within told) (rests told image at));
    hits = stay_none G.tells G.stands G.shows cache;
    keeps = keeps_none (G.state cache);
    whole = tt;
    answers = tt;
    cause = record { later = omega arith; counted = refl };
  }
