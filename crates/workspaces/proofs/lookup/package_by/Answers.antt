use Rattle.std.proofs.Common.{rules, get_or}
use Rattle.std.proofs.lemmas.Fn.{always_returns_same}
use Rattle.rel_path.specs.Paths.{name_cmp}
use Rattle.workspaces.specs.declared.member.Package.{Package}
use Rattle.workspaces.proofs.Names.{none_named, searchable, name_tied}
use Rattle.workspaces.proofs.lookup.package_by.Goals as goal

pub returns-in-Ok : goal.returns-in-Ok
returns-in-Ok c =
    let by = λ (p : Package). name_cmp p.name c.args.name.now in
    let h = c.in-Ok.ensures.position by (always_returns_same _ _ _ (λ a r g h. (search rules, search rules))) in
    (c.in-Ok.ensures.bound, λ d. name_tied (get_or c.args.packages.now c.in-Ok.place d).name c.args.name.now (h d))

pub returns-in-Err : goal.returns-in-Err
returns-in-Err c =
    let by = λ (p : Package). name_cmp p.name c.args.name.now in
    let h = c.in-Err.ensures.position by (always_returns_same _ _ _ (λ a r g h. (search rules, search rules))) in
    none_named (λ (p : Package). p.name) c.args.name.now c.args.packages.now c.in-Err.field-0 (h (searchable (λ (p : Package). p.name) c.args.name.now c.args.packages.now c.requires))
