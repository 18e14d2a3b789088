use Rattle.std.proofs.Common.{◌≡◌, ◌∙◌, sym, ap, refl, get_or}
use Rattle.std.specs.Prelude.{not, ◌&&◌}
use Rattle.std.specs.List.{list_any}
use Rattle.globs.specs.Outputs.{declares}
use Rattle.rel_path.specs.Paths.{path_eq}
use Rattle.workspaces.specs.Space.{is_root_folder, manifest_in}
use Rattle.std.proofs.lemmas.Option.{get_or_from_slice_get}
use Rattle.task_inputs.specs.Homes.{Home}
use Rattle.task_inputs.proofs.Homes.{may_count_none, may_count_some}
use Rattle.task_inputs.proofs.declared.Declared.may_count.Goals as goal

pub returns-in-None : goal.returns-in-None
returns-in-None c = sym (may_count_none c.args.path.now c.args.self.now (rw c.in-None.is at c.requires.home))

pub returns-then-not-declares : goal.returns-then-not-declares
returns-then-not-declares c =
    let path = c.args.path.now in let homes = c.args.self.now in
    let home = rw c.in-Some.is at c.requires.home in
    let n = c.in-Some.number in let r = c.index-homes-number.result in
    let here : r ≡ home.0 = c.index-homes-number.is ∙ ap (λ hs. get_or hs n r) c.homes.ensures ∙ get_or_from_slice_get homes n home.0 r home.1 in
    let declared = sym c.if-not-declares.true ∙ c.declares.ensures ∙ ap (λ (h : Home). list_any (λ t. declares t.outputs h.folder path) h.tasks) here in
    let file = c.is_package_json.ensures ∙ ap (λ f. not (is_root_folder f) && path_eq path (manifest_in f)) (c.folder.ensures ∙ ap (λ (h : Home). h.folder) here) in
    sym (may_count_some path homes n c.requires.homes home ∙ rw (← declared, file) refl)

pub returns-else-not-declares : goal.returns-else-not-declares
returns-else-not-declares c =
    let path = c.args.path.now in let homes = c.args.self.now in
    let home = rw c.in-Some.is at c.requires.home in
    let n = c.in-Some.number in let r = c.index-homes-number.result in
    let here : r ≡ home.0 = c.index-homes-number.is ∙ ap (λ hs. get_or hs n r) c.homes.ensures ∙ get_or_from_slice_get homes n home.0 r home.1 in
    let declared = sym c.if-not-declares.false ∙ c.declares.ensures ∙ ap (λ (h : Home). list_any (λ t. declares t.outputs h.folder path) h.tasks) here in
    ap not c.if-not-declares.false ∙ sym (may_count_some path homes n c.requires.homes home ∙ rw (← declared) refl)
