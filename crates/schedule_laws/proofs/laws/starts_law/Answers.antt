use Rattle.schedule_laws.proofs.Listed.{started-listed, listed-started, ended-listed, listed-ended}
use Rattle.schedule_laws.proofs.Finished.{finished, ends-started, started-reported}
use Rattle.schedule_laws.proofs.laws.starts_law.Goals as goal

pub returns : goal.returns
returns c = record {
  starts_are = λ steps t. (started-listed steps t, listed-started steps t);
  ends_are = λ steps t. (ended-listed steps t, listed-ended steps t);
  reported = λ g steps t greedy. started-reported g steps (finished g steps greedy) t;
  inside = λ g steps t greedy c. (finished g steps greedy).sound.starts t (started-listed steps t c);
  once = λ g steps greedy. (finished g steps greedy).sound.once;
  ends_once = λ g steps greedy. (finished g steps greedy).sound.ends_once;
  ends = λ g steps t greedy. ends-started g steps (finished g steps greedy) t;
}
