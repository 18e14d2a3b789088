use Rattle.blob_pool.specs.Laws.{reads_log_both}
use Rattle.artifact_store.proofs.mark.read_behind.Goals as goal

pub returns-in_err-read_from-clause-log : goal.returns-in_err-read_from-clause-log
returns-in_err-read_from-clause-log g c =
    reads_log_both c.args.log.now c.read_contents.new.log c.read_from.new.log
    c.in_ok-read_contents.ensures.log c.in_err-read_from.ensures.log
