use Rattle.std.proofs.Common.{IsTrue}
use Rattle.cache_api.specs.Cache.{AllLast}
use Rattle.cache_cases.proofs.calls.answers_of.Given as goal

-- the cache may still be used, and nothing is due
abbrev pub invariant-loop-call : goal.invariant-loop-call
invariant-loop-call g l = record {
  whole : IsTrue (g.C.Cache.state l.cache).whole;
  last : g.C.Cache.tells → AllLast (g.C.Cache.state l.cache);
}
