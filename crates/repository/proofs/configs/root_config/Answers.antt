use Rattle.std.proofs.Common.{◌≡◌, ◌∙◌, ◌++◌, ◌∷◌, [], ap, subst}
use Rattle.rel_path.specs.Paths.{Path}
use Rattle.tree_dev.specs.Tree.{within}
use Rattle.rel_path.specs.Limits.{file_limit}
use Rattle.turbo_config.specs.Files.{root_of}
use Rattle.repository.specs.Reading.{config_in, config_name, config_at, root_config}
use Rattle.repository.specs.Answers.{Answers}
use Rattle.repository.proofs.configs.root_config.Goals as goal

pub returns-in-Ok-read-clause-answers : goal.returns-in-Ok-read-clause-answers
unfolding root_config
returns-in-Ok-read-clause-answers g c = λ told.
    let files = (g.T.Tree.state c.args.tree.now).files in
    let path : c.in-Ok.path ≡ config_in [] = c.in-Ok.ensures.ok.1 ∙ ap (λ root. root ++ config_name ∷ []) c.root.ensures in
    let here : Answers (config_at root_of c.in-Ok.path (within file_limit (files c.in-Ok.path))) c.root_config_at.result = subst (λ f. Answers (config_at root_of c.in-Ok.path f) c.root_config_at.result) (c.in-Ok-read.ensures.found told) c.root_config_at.ensures.answers in
    subst (λ (p : Path). Answers (config_at root_of p (within file_limit (files p))) c.root_config_at.result) path here
