use Rattle.std.proofs.Common.{refl}
use Rattle.held_results.proofs.LookedUp.{held_reads}
use Rattle.held_results.proofs.cache.HeldCache.hit_log.Goals as goal

pub returns-clause-reads : goal.returns-clause-reads
returns-clause-reads g c = held_reads c.args.self.now (g.met.C.Cache.within c.args.self.now.inner) _ refl c.hit_log.ensures.reads
