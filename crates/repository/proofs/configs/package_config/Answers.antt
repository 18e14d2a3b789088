use Rattle.std.proofs.Common.{◌≡◌, subst}
use Rattle.rel_path.specs.Paths.{Path}
use Rattle.tree_dev.specs.Tree.{within}
use Rattle.rel_path.specs.Limits.{file_limit}
use Rattle.turbo_config.specs.Files.{package_of}
use Rattle.repository.specs.Reading.{config_in, config_at, package_config}
use Rattle.repository.specs.Answers.{Answers}
use Rattle.repository.proofs.configs.package_config.Goals as goal

pub returns-in-Ok-read-clause-answers : goal.returns-in-Ok-read-clause-answers
unfolding package_config
returns-in-Ok-read-clause-answers g c = λ told.
    let files = (g.T.Tree.state c.args.tree.now).files in
    let path : c.in-Ok.path ≡ config_in c.args.folder.now = c.in-Ok.ensures.ok.1 in
    let here : Answers (config_at package_of c.in-Ok.path (within file_limit (files c.in-Ok.path))) c.package_config_at.result = subst (λ f. Answers (config_at package_of c.in-Ok.path f) c.package_config_at.result) (c.in-Ok-read.ensures.found told) c.package_config_at.ensures.answers in
    subst (λ (p : Path). Answers (config_at package_of p (within file_limit (files p))) c.package_config_at.result) path here
