use Rattle.std.proofs.Common.{◌≡◌, ◌∙◌, ◌&&◌, Bool, true, [], map, sym, ap}
use Rattle.std.specs.Prelude.{not, Some}
use Rattle.workspaces.specs.declared.member.Package.{Package}
use Rattle.workspaces.specs.Space.{owners, is_proper, lies_in_some}
use Rattle.pruned_files.specs.Folders.{is_folder}
use Rattle.pruned_files.proofs.Sets.{root_home, inner_path}
use Rattle.pruned_files.proofs.places.is_at_root_home.Goals as goal

pub returns-then-has_folder : goal.returns-then-has_folder
returns-then-has_folder c = λ space of.
    let path = c.args.path.now in
    let inside : Bool = lies_in_some (map (λ (p : Package). p.folder) (owners space)) path in
    let proper : is_proper (Some path) ≡ true = inner_path path (sym c.is_empty.ensures ∙ c.if-is_empty.false) in
    let there : is_folder c.args.kept.now [] ≡ true = sym c.has_folder.ensures ∙ c.if-has_folder.true in
    ap not (root_home space c.args.packages.now of path c.lies_in_some.result c.lies_in_some.ensures)
    ∙ sym (ap (λ b. b && (is_folder c.args.kept.now [] && not inside)) proper ∙ ap (λ b. b && not inside) there)
