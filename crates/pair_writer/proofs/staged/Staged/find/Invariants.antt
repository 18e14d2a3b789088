use Rattle.blob_pool.proofs.Search.{IsSearched, left}
use Rattle.std.proofs.Common.{ℕ}
use Rattle.pair_writer.specs.Contents.{digests_in}
use Rattle.pair_writer.specs.Staged.{entries}
use Rattle.pair_writer.proofs.staged.Staged.find.Given as goal

abbrev pub invariant-loop-last : goal.invariant-loop-last
invariant-loop-last l = record {
  searched : (limit : ℕ) × IsSearched (Unit {0}) (digests_in l.fn.self.contents) (entries l.fn.self) l.fn.digest l.fn.bytes l.last l.found limit;
}

abbrev pub decreases-loop-last : goal.decreases-loop-last
decreases-loop-last l = left l.last
