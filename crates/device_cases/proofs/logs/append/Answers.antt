use Rattle.std.proofs.Common.{refl}
use Rattle.record_log.specs.Forms.{form_1}
use Rattle.device_cases.proofs.logs.append.Goals as goal

-- a pair may be any bytes
pub append-requires-clause-form : goal.append-requires-clause-form
append-requires-clause-form c told = form_1 _ _ refl
