-- A dry run reads the pairs, of which all last on.
use Rattle.std.proofs.Common.{sym, ap, ◌∙◌, length}
use Rattle.cache_runs.proofs.running.run_dry.Goals as goal

pub returns-in-Ok-clause-last : goal.returns-in-Ok-clause-last
returns-in-Ok-clause-last g c told =
    let reads = c.in-Ok.ensures.reads in
    reads.lasting told ∙ c.requires.last told ∙ ap length (sym (reads.pairs told))
