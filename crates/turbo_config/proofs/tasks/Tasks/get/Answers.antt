use Rattle.std.specs.Ordering.{is_eq}
use Rattle.rel_path.specs.Paths.{name_cmp}
use Rattle.turbo_config.proofs.Listed.{found_reads, lent_reads}
use Rattle.turbo_config.proofs.tasks.Tasks.get.Goals as goal

pub returns-clause-reads : goal.returns-clause-reads
returns-clause-reads c =
    lent_reads c.get.result _ c.get.ensures.value (found_reads (λ key. is_eq (name_cmp c.args.key.now key)) c.self.inside.entries.entries c.self.invariant)
