use Rattle.std.proofs.Common.{◌≡◌, ◌∙◌, sym, ap, get_or}
use Rattle.std.specs.List.{list_any}
use Rattle.globs.specs.Outputs.{declares}
use Rattle.std.proofs.lemmas.Option.{get_or_from_slice_get}
use Rattle.task_inputs.specs.Homes.{Home}
use Rattle.task_inputs.proofs.Homes.{declared_none, declared_alone}
use Rattle.task_inputs.proofs.declared.Declared.holds.Goals as goal

pub returns-in-None : goal.returns-in-None
returns-in-None c = sym (declared_none c.args.path.now c.args.self.now c.in-None.ensures.home)

pub returns-in-Some : goal.returns-in-Some
returns-in-Some c =
    let path = c.args.path.now in let homes = c.args.self.now in
    let home = c.in-Some.ensures.home in
    let n = c.in-Some.number in
    let r = c.index-homes-number.result in
    let here : r ≡ home.0 = c.index-homes-number.is ∙ ap (λ hs. get_or hs n r) c.homes.ensures ∙ get_or_from_slice_get homes n home.0 r home.1 in
    c.declares.ensures ∙ ap (λ (h : Home). list_any (λ t. declares t.outputs h.folder path) h.tasks) here
    ∙ sym (declared_alone path homes n c.in-Some.ensures.homes home)
