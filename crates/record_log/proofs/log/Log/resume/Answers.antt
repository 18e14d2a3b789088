use Rattle.record_log.proofs.Places.{kept_front}
use Rattle.record_log.proofs.log.Log.resume.Goals as goal

pub invariant_of-result : goal.invariant_of-result
invariant_of-result g c = record {
  front = λ told. kept_front (c.in-Ok.ensures.kept told);
  kept = λ _ told. c.in-Ok.ensures.kept told;
}
