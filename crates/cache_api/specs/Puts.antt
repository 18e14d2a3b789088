-- What putting several pairs leaves of a cache, as `put_all` says it, of pairs wherever they lie.
use Rattle.std.specs.Prelude.{◌≡◌, ◌≤◌, List, ◌++◌, Result, IfOk, IfErr, OnOk}
use Rattle.rel_path.specs.Causes.{Counts}
use Rattle.cache_api.specs.declared.cache.Cache.{Ghosts}
use Rattle.cache_api.specs.declared.error.CacheErr.{CacheErr}
use Rattle.cache_api.specs.declared.puts.Puts.{Puts}
use Rattle.cache_api.specs.Cache.{Keeps, HitsStay, StaysWhole, AllLast, AllAfter, ArePut, is_fault, IsFindErr}
use Rattle.cache_api.specs.Moments.{Leaves}
use Rattle.cache_api.specs.Pairs.{Pair, chosen, IsPartSince}

pub record PutsAll {C : Type 0} (G : Ghosts C) (news : List Pair) (old new : C)
    (result : Result Puts CacheErr) : Type 0 where
  pub outcome : G.tells → IfOk result (λ puts. puts ≡ G.stores old news)
  pub put : IfOk result (λ puts. ArePut (G.state new).room news puts)
  pub pairs : G.tells → AllAfter result (G.state old).lasting (G.state old).pairs
      (chosen news (G.stores old news)) (G.state new).pairs
  pub lasts : G.tells → OnOk result (AllLast (G.state new))
  pub lasting : G.tells → (G.state old).lasting ≤ (G.state new).lasting
  pub left : G.tells → Leaves G.moment G.left old new
      (λ image. IsPartSince (G.state old).lasting ((G.state old).pairs
      ++ chosen news (G.stores old news)) (G.says (G.state old).base image))
  pub hits : HitsStay G.tells G.stands G.shows old new
  pub keeps : Keeps (G.state old) (G.state new)
  pub whole : StaysWhole result (G.state old).whole (G.state new).whole
  pub answers : IfErr result IsFindErr
  pub cause : Counts is_fault (G.state old).faults (G.state new).faults result
