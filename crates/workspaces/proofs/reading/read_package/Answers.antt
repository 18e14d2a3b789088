use Rattle.std.proofs.Common.{◌≡◌, ◌∙◌, ap, subst}
use Rattle.tree_dev.specs.Tree.{within}
use Rattle.workspaces.specs.Space.{manifest_in, package_at, Discovers}
use Rattle.rel_path.specs.Limits.{file_limit}
use Rattle.workspaces.proofs.ReadIn.{discovers}
use Rattle.workspaces.proofs.reading.read_package.Goals as goal

pub returns-in-Ok-read-clause-found : goal.returns-in-Ok-read-clause-found
returns-in-Ok-read-clause-found g c = λ told.
    let files = (g.T.Tree.state c.args.tree.now).files in
    let path : c.in-Ok.path ≡ manifest_in c.args.folder.now = c.in-Ok.ensures.ok.1 in
    let found : c.in-Ok-read.found ≡ within file_limit (files (manifest_in c.args.folder.now)) = c.in-Ok-read.ensures.found told ∙ ap (λ p. within file_limit (files p)) path in
    subst (λ f. Discovers (package_at c.args.folder.now f) c.package_at.result) found (discovers _ _ c.package_at.ensures.found)
