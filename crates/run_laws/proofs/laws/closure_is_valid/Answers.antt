use Rattle.run_laws.proofs.ValidParts.{closure_is_ordered_lem, closure_is_valid_lem}
use Rattle.run_laws.proofs.laws.closure_is_valid.Goals as goal

pub returns-clause-ordered : goal.returns-clause-ordered
returns-clause-ordered c = closure_is_ordered_lem

pub returns-clause-valid : goal.returns-clause-valid
returns-clause-valid c = closure_is_valid_lem
