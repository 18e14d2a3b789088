use Rattle.std.proofs.Common.{◌≡◌, ◌∙◌, ◌++◌, ◌∷◌, [], ap, subst}
use Rattle.std.specs.Option.{option_map}
use Rattle.serde_json.specs.View.{view}
use Rattle.tree_dev.specs.Tree.{within}
use Rattle.rel_path.specs.Limits.{file_limit}
use Rattle.repository.specs.Steps.{at_root}
use Rattle.repository.specs.Reading.{lock_name, lock_from, lockfile}
use Rattle.repository.specs.Answers.{AnswersAs}
use Rattle.repository.proofs.lockfile.lockfile.Goals as goal

pub returns-in-Ok-read-clause-answers : goal.returns-in-Ok-read-clause-answers
unfolding lockfile
returns-in-Ok-read-clause-answers g c = λ told.
    let files = (g.T.Tree.state c.args.tree.now).files in
    let path : c.in-Ok.path ≡ at_root lock_name = c.in-Ok.ensures.ok.1 ∙ ap (λ root. root ++ lock_name ∷ []) c.root.ensures in
    let found : c.in-Ok-read.found ≡ within file_limit (files (at_root lock_name)) = c.in-Ok-read.ensures.found told ∙ ap (λ p. within file_limit (files p)) path in
    subst (λ f. AnswersAs (λ lock. option_map view lock) (lock_from f) c.lock_from.result) found c.lock_from.ensures.answers
