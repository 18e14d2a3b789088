use Rattle.std.proofs.Common.{◌≡◌, ◌+◌, ◌≤◌, length, map, take}
use Rattle.std.specs.Prelude.{sum_by}
use Rattle.cache_api.specs.Cache.{CacheReads}
use Rattle.cache_api.proofs.cache.Cache.hit_artifact.Given as goal

-- the files so far
abbrev pub invariant-loop-index : goal.invariant-loop-index
invariant-loop-index g l = record {
  reads : CacheReads g.Self.Cache.tells g.Self.Cache.state g.Self.Cache.cost g.Self.Cache.stands g.Self.Cache.shows g.Self.Cache.moment g.Self.Cache.left g.Self.Cache.says l.fn.self l.self;
  whole : (g.Self.Cache.state l.self).whole ≡ (g.Self.Cache.state l.fn.self).whole;
  faults : (g.Self.Cache.state l.self).faults ≡ (g.Self.Cache.state l.fn.self).faults;
  probes : (g.Self.Cache.state l.self).probes ≤ (g.Self.Cache.state l.fn.self).probes + (length l.hit.log + sum_by (λ file. length file.spans) (take l.index l.hit.files));
  paths : map (λ file. file.0) l.files ≡ map (λ file. file.path) (take l.index l.hit.files);
  files : g.Self.Cache.tells → l.files ≡ take l.index (g.Self.Cache.shows l.fn.self l.hit).1;
}
