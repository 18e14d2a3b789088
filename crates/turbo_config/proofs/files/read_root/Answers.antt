use Rattle.turbo_config.proofs.Listed.{globals_read}
use Rattle.turbo_config.proofs.files.read_root.Goals as goal

pub invariant_of-result : goal.invariant_of-result
invariant_of-result c = globals_read _ _ c.in_ok-globals.ensures
