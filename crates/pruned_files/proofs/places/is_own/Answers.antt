use Rattle.std.proofs.Common.{◌&&◌, ◌∙◌, sym, ap, Bool}
use Rattle.std.specs.Prelude.{not}
use Rattle.workspaces.specs.Space.{owners}
use Rattle.task_inputs.specs.Homes.{is_declared, declared_in}
use Rattle.pruned_files.proofs.places.is_own.Goals as goal

pub returns-then-has_home : goal.returns-then-has_home
returns-then-has_home c = λ contents kept k.
    let path = c.args.path.now in
    let declared : Bool = is_declared contents.setup (owners contents.space) path in
    ap not (c.holds.ensures ∙ ap (λ h. declared_in h path) k.homes) ∙ sym (ap (λ b. b && not declared) (sym (c.has_home.ensures contents.space kept k.folders k.all) ∙ c.if-has_home.true))

pub returns-else-has_home : goal.returns-else-has_home
returns-else-has_home c = λ contents kept k.
    let path = c.args.path.now in
    let declared : Bool = is_declared contents.setup (owners contents.space) path in
    c.if-has_home.false ∙ sym (ap (λ b. b && not declared) (sym (c.has_home.ensures contents.space kept k.folders k.all) ∙ c.if-has_home.false))
