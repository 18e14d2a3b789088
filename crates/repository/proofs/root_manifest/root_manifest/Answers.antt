use Rattle.std.proofs.Common.{◌≡◌, ◌∙◌, ◌++◌, ◌∷◌, [], ap, subst}
use Rattle.tree_dev.specs.Tree.{within}
use Rattle.workspaces.specs.Space.{manifest_name}
use Rattle.rel_path.specs.Limits.{file_limit}
use Rattle.repository.specs.Steps.{at_root}
use Rattle.repository.specs.Reading.{root_from, root_manifest}
use Rattle.repository.specs.Answers.{Answers}
use Rattle.repository.proofs.root_manifest.root_manifest.Goals as goal

pub returns-in-Ok-read-clause-answers : goal.returns-in-Ok-read-clause-answers
unfolding root_manifest
returns-in-Ok-read-clause-answers g c = λ told.
    let files = (g.T.Tree.state c.args.tree.now).files in
    let path : c.in-Ok.path ≡ at_root manifest_name = c.in-Ok.ensures.ok.1 ∙ ap (λ root. root ++ manifest_name ∷ []) c.root.ensures in
    let found : c.in-Ok-read.found ≡ within file_limit (files (at_root manifest_name)) = c.in-Ok-read.ensures.found told ∙ ap (λ p. within file_limit (files p)) path in
    subst (λ f. Answers (root_from f) c.root_from.result) found c.root_from.ensures.answers
