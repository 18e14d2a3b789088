use Rattle.std.proofs.Common.{◌≡◌, sym, subst, get_or}
use Rattle.std.specs.Prelude.{IfOk}
use Rattle.workspaces.specs.declared.member.Package.{Package}
use Rattle.workspaces.specs.Edges.{is_inner, links}
use Rattle.workspaces.proofs.Names.{any_none, any_named}
use Rattle.workspaces.proofs.needs.is_inner.Goals as goal

pub returns-in-Some-clause-value : goal.returns-in-Some-clause-value
unfolding is_inner
returns-in-Some-clause-value c =
    let d = c.index-packages-place.result in
    let at = c.in-Some.ensures in
    let e : is_inner c.args.packages.now c.args.manifest.now c.args.name.now ≡ links c.args.manifest.now (get_or c.args.packages.now c.in-Some.place d) =
    any_named (λ (q : Package). q.name) c.args.name.now (links c.args.manifest.now) c.args.packages.now c.requires.packages c.in-Some.place d at.0 (at.1 d) in
    subst (λ t. IfOk c.links.result (λ is. is ≡ t)) (sym e) (rw c.index-packages-place.is at c.links.ensures.value)

pub returns-in-None-clause-value : goal.returns-in-None-clause-value
unfolding is_inner
returns-in-None-clause-value c = sym (any_none (λ (q : Package). q.name) c.args.name.now (links c.args.manifest.now) c.args.packages.now c.in-None.ensures)
