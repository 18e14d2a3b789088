use Rattle.std.proofs.Common.{◌≡◌, ◌∙◌, true, false, ap, sym, subst}
use Rattle.rel_path.specs.Paths.{name_eq}
use Rattle.workspaces.specs.Space.{Space, root_name, IsOwnerAt}
use Rattle.workspaces.specs.Steps.{AscendingNames}
use Rattle.workspaces.proofs.Owners.{package_is_owner, root_is_owner, named_none}
use Rattle.workspaces.proofs.packages.Packages.owner_of.Goals as goal

pub returns-in-Some : goal.returns-in-Some
returns-in-Some c =
    let up : AscendingNames c.args.self.now.packages = subst (λ (s : Space). AscendingNames s.packages) c.self.view_is c.self.invariant.proper.names in
    package_is_owner c.args.self.now c.args.name.now up c.in-Some.p c.in-Some.ensures

pub returns-then-eq : goal.returns-then-eq
returns-then-eq c =
    let root : c.self.inside.root.name ≡ root_name = ap (λ p. p.name) c.self.invariant.root in
    let is : name_eq root_name c.args.name.now ≡ true = ap (λ n. name_eq n c.args.name.now) (sym root) ∙ (sym c.eq.ensures ∙ c.if-eq.true) in
    subst (IsOwnerAt c.args.self.now c.args.name.now) (sym c.count.ensures.value) (root_is_owner c.args.self.now c.args.name.now c.in-None.ensures is)

pub returns-else-eq : goal.returns-else-eq
returns-else-eq c =
    let root : c.self.inside.root.name ≡ root_name = ap (λ p. p.name) c.self.invariant.root in
    let is : name_eq root_name c.args.name.now ≡ false = ap (λ n. name_eq n c.args.name.now) (sym root) ∙ (sym c.eq.ensures ∙ c.if-eq.false) in
    named_none c.args.self.now c.args.name.now c.in-None.ensures is
