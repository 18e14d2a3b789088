use Rattle.std.proofs.Common.{length, ap, arith}
use Rattle.record_log.proofs.Places.{mark_none}
use Rattle.artifact_store.proofs.mark.StoreMark.new.Goals as goal

pub returns-clause-mark : goal.returns-clause-mark
returns-clause-mark c fs = record {
  count = ap length c.new.ensures.seats;
  few = omega arith;
  log = mark_none c.new.result c.new.ensures.seats c.new.ensures.end c.new.ensures.contents c.new.ensures.generation fs;
  pool = c.new-2.ensures.none;
  index = c.new-3.ensures.none;
}
