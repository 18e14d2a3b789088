use Rattle.std.proofs.Common.{refl}
use Rattle.record_log.specs.Forms.{form_1}
use Rattle.store_bench.proofs.logs.fill.Goals as goal

pub append-requires-clause-form : goal.append-requires-clause-form
append-requires-clause-form g c told = form_1 _ _ refl
