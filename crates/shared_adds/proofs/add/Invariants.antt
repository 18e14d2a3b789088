use Rattle.std.specs.Prelude.{IsTrue}
use Rattle.cache_api.specs.Cache.{AllLast}
use Rattle.shared_adds.proofs.add.Given as goal

abbrev pub invariant-loop-number : goal.invariant-loop-number
invariant-loop-number g l = record {
  whole : IsTrue (g.C.Cache.state l.cache).whole;
  last : g.C.Cache.tells → AllLast (g.C.Cache.state l.cache);
}
