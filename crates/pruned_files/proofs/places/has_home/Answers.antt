use Rattle.std.proofs.Common.{◌≡◌, ◌∙◌, ◌&&◌, ◌||◌, Bool, [], map, sym, ap, subst}
use Rattle.std.specs.Prelude.{not}
use Rattle.std.specs.List.{list_any}
use Rattle.rel_path.specs.Paths.{Path, path_eq}
use Rattle.workspaces.specs.declared.member.Package.{Package}
use Rattle.workspaces.specs.Space.{owners, lies_below, lies_in_some}
use Rattle.pruned_files.specs.Folders.{is_folder, IsBelowSome}
use Rattle.pruned_files.proofs.Sets.{below_some, home_split, lies_inside}
use Rattle.pruned_files.proofs.places.has_home.Goals as goal

pub returns-then-lies_in_some : goal.returns-then-lies_in_some
returns-then-lies_in_some c = λ space stay kept packages.
    let path = c.args.path.now in
    let inside : Bool = lies_in_some (map (λ (p : Package). p.folder) (owners space)) path in
    let at_root : Bool = lies_below path [] && (list_any (λ (p : Package). path_eq [] p.folder) stay && not inside) in
    let some : c.lies_in_some.result ≡ list_any (lies_inside path) stay = below_some c.args.kept.now stay kept path c.lies_in_some.result (subst (λ (q : Path). IsBelowSome c.args.kept.now q c.lies_in_some.result) c.components-names.ensures.value c.lies_in_some.ensures) in
    c.if-lies_in_some.true ∙ sym (home_split (owners space) stay path ∙ ap (λ b. b || at_root) (sym some ∙ c.if-lies_in_some.true))

pub returns-else-lies_in_some : goal.returns-else-lies_in_some
returns-else-lies_in_some c = λ space stay kept packages.
    let path = c.args.path.now in
    let inside : Bool = lies_in_some (map (λ (p : Package). p.folder) (owners space)) path in
    let at_root : Bool = lies_below path [] && (list_any (λ (p : Package). path_eq [] p.folder) stay && not inside) in
    let some : c.lies_in_some.result ≡ list_any (lies_inside path) stay = below_some c.args.kept.now stay kept path c.lies_in_some.result (subst (λ (q : Path). IsBelowSome c.args.kept.now q c.lies_in_some.result) c.components-names.ensures.value c.lies_in_some.ensures) in
    subst (λ (q : Path). c.is_at_root_home.result ≡ (lies_below q [] && (is_folder c.args.kept.now [] && not (lies_in_some (map (λ (p : Package). p.folder) (owners space)) q)))) c.components-names.ensures.value (c.is_at_root_home.ensures space packages)
    ∙ ap (λ b. lies_below path [] && (b && not inside)) (kept [])
    ∙ sym (home_split (owners space) stay path ∙ ap (λ b. b || at_root) (sym some ∙ c.if-lies_in_some.false))
