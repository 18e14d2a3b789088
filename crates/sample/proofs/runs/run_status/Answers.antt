use Rattle.std.proofs.Common.{refl}
use Rattle.sample.proofs.runs.run_status.Goals as goal

pub returns-clause-runs : goal.returns-clause-runs
returns-clause-runs c before after =
    let once = c.run_once-answer in
    record {
      answer = once.result.0;
      remembered = c.in-Some.ensures.remembered refl;
      runs = once.ensures.runs before after;
      kept = once.ensures.kept before after;
      status_is = c.in-Some.ensures.status;
    }
