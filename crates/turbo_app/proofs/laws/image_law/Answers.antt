-- From the law of pairs that are due.
use Rattle.turbo_app.proofs.Chain.{none_in, good_from}
use Rattle.turbo_app.proofs.laws.image_law.Goals as goal

pub returns : goal.returns
returns c book first images short also chain =
    good_from c.due_law.ensures book first _ (none_in first short also) tt images chain
