use Rattle.std.proofs.Common.{◌≡◌, ◌++◌, ◌∷◌, [], ◌&&◌, ◌∙◌, sym, ap}
use Rattle.std.specs.Prelude.{bytes_eq}
use Rattle.task_inputs.specs.Ignores.{ignore_name}
use Rattle.pruned_files.specs.Folders.{is_folder, is_ignore_in}
use Rattle.pruned_files.proofs.Lasts.{ignore_is}
use Rattle.pruned_files.proofs.places.is_ignore_in.Goals as goal

pub returns-then-eq : goal.returns-then-eq
returns-then-eq c =
    let path : c.in-Some.folder.now ++ c.in-Some.last.now ∷ [] ≡ c.args.path.now = sym c.in-Some.ensures.cases.0 ∙ c.components.ensures.value in
    c.has_folder.ensures ∙ sym (ap (λ b. b && is_folder c.args.folders.now c.in-Some.folder.now) (sym (c.eq.ensures ∙ ap (λ n. bytes_eq n ignore_name) c.as_str.ensures) ∙ c.if-eq.true))
    ∙ sym (ignore_is c.args.folders.now c.in-Some.folder.now c.in-Some.last.now) ∙ ap (is_ignore_in c.args.folders.now) path

pub returns-else-eq : goal.returns-else-eq
returns-else-eq c =
    let path : c.in-Some.folder.now ++ c.in-Some.last.now ∷ [] ≡ c.args.path.now = sym c.in-Some.ensures.cases.0 ∙ c.components.ensures.value in
    c.if-eq.false ∙ sym (ap (λ b. b && is_folder c.args.folders.now c.in-Some.folder.now) (sym (c.eq.ensures ∙ ap (λ n. bytes_eq n ignore_name) c.as_str.ensures) ∙ c.if-eq.false))
    ∙ sym (ignore_is c.args.folders.now c.in-Some.folder.now c.in-Some.last.now) ∙ ap (is_ignore_in c.args.folders.now) path
