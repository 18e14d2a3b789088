use Rattle.std.proofs.Common.{◌≡◌, ◌++◌, ◌∷◌, [], ap, sym, ◌∙◌}
use Rattle.std.specs.Prelude.{bytes_eq}
use Rattle.task_inputs.specs.Ignores.{is_ignore_file, ignore_name}
use Rattle.collect.proofs.Readings.{last_name}
use Rattle.collect.proofs.reading.is_ignore_file.Goals as goal

pub returns-in-Some : goal.returns-in-Some
returns-in-Some c =
    let name : c.as_str.result.now ≡ c.in-Some.last.now = c.as_str.ensures in
    let path : c.in-Some.field-0-1.now ++ c.in-Some.last.now ∷ [] ≡ c.args.path.now = sym c.in-Some.ensures.cases.0 ∙ c.components.ensures.value in
    c.eq.ensures ∙ ap (λ n. bytes_eq n ignore_name) name ∙ sym (last_name c.in-Some.field-0-1.now c.in-Some.last.now) ∙ ap is_ignore_file path
