use Rattle.planner.proofs.Ending.{filters_end}
use Rattle.planner.proofs.selection.selected_packages.Goals as goal

pub returns-in-Err : goal.returns-in-Err
returns-in-Err c = rw c.filter_error.ensures (filters_end c.args.packages.now.packages c.args.words.now c.in-Err.fault c.in-Err.ensures.err)
