use Rattle.glob_syntax.proofs.Width.{few_without_fault}
use Rattle.globs.proofs.glob.Glob.read_from.Goals as goal

pub returns-clause-few : goal.returns-clause-few
returns-clause-few c = rw c.in_ok-alternatives.ensures.ok (few_without_fault _ _ c.in_ok-alternatives.ensures.whole)
