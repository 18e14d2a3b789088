use Rattle.std.proofs.Common.{◌∙◌}
use Rattle.run_laws.specs.Ancestors.{part_at}
use Rattle.run_laws.specs.Worlds.{logged}
use Rattle.runner.proofs.FileFacts.{only-then}
use Rattle.runner.proofs.looking.replay.Goals as goal

pub returns-clause-others : goal.returns-clause-others
returns-clause-others g c told =
    only-then c.args.plan.now c.args.place _ _ _ (c.in_ok-log.ensures.others told)
    (c.in_ok-keep_log.ensures.others told)

pub returns-clause-replayed : goal.returns-clause-replayed
returns-clause-replayed g c told store =
    let part = part_at c.args.plan.now.listing c.args.place in
    c.in_ok-keep_log.ensures.logged told ∙ (λ i. logged part
    ((c.as_slice.ensures ∙ c.in_ok-log.ensures.log store) i)
    (c.in_ok-log.ensures.restored told store i))
