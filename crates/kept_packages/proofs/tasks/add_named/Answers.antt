use Rattle.std.proofs.Common.{◌≡◌, subst}
use Rattle.std.proofs.lemmas.Result.{on_ok_weaker}
use Rattle.workspaces.specs.declared.member.Package.{Package}
use Rattle.workspaces.specs.Space.{owners}
use Rattle.repository.specs.Reading.{contents_of}
use Rattle.kept_packages.specs.Kept.{NamesTaskOf}
use Rattle.kept_packages.specs.Needs.{Gains}
use Rattle.kept_packages.specs.Steps.{AnyTaskNames}
use Rattle.kept_packages.proofs.Gains.{held, there, gains_alone}
use Rattle.kept_packages.proofs.Texts.{all_named}
use Rattle.kept_packages.proofs.tasks.add_named.Goals as goal

pub returns-clause-added : goal.returns-clause-added
returns-clause-added c =
    let contents = contents_of c.args.repository.now in
    let space = c.args.repository.now.packages in
    let p = there (owners space) c.args.owner c.requires.owner in
    let name = held (λ (q : Package). c.name-name.result.now ≡ q.name) (owners space) c.args.owner p.0 c.name-name.ensures p.1 in
    let old = c.args.found.now.items in
    let new = c.add_tasks.new.found.items in
    on_ok_weaker c.add_tasks.result (λ gains. gains_alone space (NamesTaskOf contents) c.args.owner p.0 p.1 old new
    (all_named contents p.0 c.args.names.now old new c.requires.names
    (subst (λ n. Gains space (AnyTaskNames space c.args.repository.now.config n c.args.names.now) old new) name gains))) c.add_tasks.ensures.added
