use Rattle.record_log.specs.Records.{record_reads, record_again}
use Rattle.record_log.proofs.piece.record_law.Goals as goal

pub returns : goal.returns
returns c = record { reads = record_reads; again = record_again }
