use Rattle.std.proofs.Common.{◌∙◌, sym, ap, subst}
use Rattle.task_inputs.specs.Folders.{number_at}
use Rattle.kept_packages.specs.Steps.{IsNumber, IsWritten}
use Rattle.kept_packages.proofs.Indexing.{by_path, by_fault}
use Rattle.kept_packages.proofs.folders.number_by.Goals as goal

pub returns-in-Ok-clause-number : goal.returns-in-Ok-clause-number
returns-in-Ok-clause-number c = λ space index.
    let text = c.args.text.now in
    let read = rw c.as_str.ensures at c.in-Ok.ensures.ok in
    let back = rw c.as_str.ensures at c.in-Ok.ensures.back in
    subst (IsNumber space.packages (IsWritten text)) (sym (c.number_at.ensures ∙ ap (number_at c.args.folders.now) c.components.ensures.value)) (by_path space c.args.folders.now index text c.in-Ok.path read.1 back)

pub returns-in-Err-clause-number : goal.returns-in-Err-clause-number
returns-in-Err-clause-number c = λ space index. by_fault space c.args.folders.now index c.args.text.now c.in-Err.fault c.no_number.result (rw c.as_str.ensures at c.in-Err.ensures.err) c.no_number.ensures.none c.no_number.ensures.refused
