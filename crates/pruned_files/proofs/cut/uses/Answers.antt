use Rattle.pruned_files.proofs.cut.uses.Goals as goal

pub returns-in-Err-Missing : goal.returns-in-Err-Missing
returns-in-Err-Missing c = rw c.in-Err-Missing.field-0-is at c.in-Err-Missing.ensures
