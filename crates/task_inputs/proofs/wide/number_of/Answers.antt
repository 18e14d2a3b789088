use Rattle.std.proofs.Common.{◌≡◌, ◌∙◌, sym, ap, length, List}
use Rattle.std.specs.Prelude.{Some, position}
use Rattle.workspaces.specs.Lists.{places}
use Rattle.input_entries.specs.declared.entries.InputGlob.{InputGlob}
use Rattle.input_entries.specs.Entries.{any_wide}
use Rattle.task_inputs.specs.WideLists.{has_inputs, places_by}
use Rattle.task_inputs.proofs.WideLists.{known_right, put_last}
use Rattle.task_inputs.proofs.wide.number_of.Goals as goal

pub returns-in-Some-clause-places : goal.returns-in-Some-clause-places
returns-in-Some-clause-places c =
    let walk = c.args.walk.now in let lists = c.args.lists.now.items in
    let found : position (has_inputs c.args.inputs.now) lists ≡ Some c.in-Some.number = ap (position (has_inputs c.args.inputs.now)) (sym c.deref.ensures.value) ∙ sym c.in-Some.ensures in
    (known_right walk lists c.args.inputs.now c.in-Some.number c.requires.lists found).1 ∙ ap (λ (es : List InputGlob). places (any_wide es) walk) (sym c.requires.globs)

pub returns-clause-places : goal.returns-clause-places
returns-clause-places c =
    let lists = c.args.lists.now.items in
    let last : c.len-number.result ≡ length lists = c.len-number.ensures ∙ c.args.lists.now.ok.0 in
    ap (λ n. places_by c.push.new.self.items (Some n)) last ∙ (put_last lists c.push.new.self.items _ c.in_ok-push.ensures.items).1 ∙ c.in_ok-places.ensures.places
