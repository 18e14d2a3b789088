use Rattle.std.proofs.Common.{◌≡◌, ◌++◌, map, length, drop}
use Rattle.std.specs.List.{sum}
use Rattle.pair_writer.specs.Joined.{cut_by}
use Rattle.pair_writer.proofs.hashing.cut_by.Given as goal

-- the lists so far, and the digests of those that are to come
abbrev pub invariant-loop-count : goal.invariant-loop-count
invariant-loop-count l = record {
  sum : sum (drop l.count-index l.counts) ≡ length l.rest;
  cut : cut_by l.counts l.digests
      ≡ map (λ own. own.items) l.lists.items ++ cut_by (drop l.count-index l.counts) l.rest;
}
