use Rattle.std.proofs.Common.{◌≡◌, ◌∙◌, ◌++◌, ◌∷◌, [], sym, ap, true, false}
use Rattle.rel_path.specs.Paths.{path_eq, name_eq}
use Rattle.task_inputs.proofs.Names.{ends_same, ends_other}
use Rattle.task_inputs.proofs.files.is_file_in.Goals as goal

pub returns-then-eq : goal.returns-then-eq
returns-then-eq c =
    let is : c.args.path.now ≡ c.in-Some.above.now ++ c.in-Some.last.now ∷ [] = sym c.components.ensures.value ∙ c.in-Some.ensures.cases.0 in
    let named : name_eq c.in-Some.last.now c.args.name.now ≡ true = ap (λ n. name_eq n c.args.name.now) (sym c.as_str.ensures) ∙ sym c.if-eq.ensures in
    c.eq-then-eq.ensures ∙ ap (path_eq c.in-Some.above.now) c.components-then-eq.ensures.value ∙ sym (ends_same c.args.path.now c.in-Some.above.now c.args.folder.now c.in-Some.last.now c.args.name.now is named)

pub returns-else-eq : goal.returns-else-eq
returns-else-eq c =
    let is : c.args.path.now ≡ c.in-Some.above.now ++ c.in-Some.last.now ∷ [] = sym c.components.ensures.value ∙ c.in-Some.ensures.cases.0 in
    let named : name_eq c.in-Some.last.now c.args.name.now ≡ false = ap (λ n. name_eq n c.args.name.now) (sym c.as_str.ensures) ∙ sym c.if-eq.ensures in
    c.if-eq.false ∙ sym (ends_other c.args.path.now c.in-Some.above.now c.args.folder.now c.in-Some.last.now c.args.name.now is named)
