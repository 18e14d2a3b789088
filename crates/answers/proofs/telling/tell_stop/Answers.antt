-- Where the repository or the plan is refused the tree's count stayed.
use Rattle.std.proofs.Common.{sym, subst}
use Rattle.rel_path.specs.Causes.{Counts}
use Rattle.answers.specs.Answers.{HasCauseIn, counts_of}
use Rattle.refusals.specs.Stops.{is_failed}
use Rattle.answers.specs.Stops.{raised}
use Rattle.answers.proofs.telling.tell_stop.Goals as goal

pub returns-in-Refused-clause-cause : goal.returns-in-Refused-clause-cause
returns-in-Refused-clause-cause g c = λ before after store start counts.
    let known = subst (λ s. Counts {T = Unit {0}} is_failed before after (raised s)) c.in-Refused.is counts in
    subst (λ n. HasCauseIn (counts_of before store start (g.K.Sink.faults c.args.out.now)) (counts_of n store start (g.K.Sink.faults c.refuse.new.out)) c.refuse.result) (sym known.counted) (c.refuse.ensures.cause before store start)
