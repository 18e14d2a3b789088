use Rattle.std.specs.Prelude.{IsTrue}
use Rattle.std.proofs.lemmas.Bool.{and_parts}
use Rattle.relay_store.specs.Laws.{local_device, second_device, local_images, second_images}
use Rattle.relay_store.proofs.laws.device_law.Goals as goal

pub returns-clause-local : goal.returns-clause-local
returns-clause-local g c old new added whole t u same leaves =
    local_images old new (and_parts _ _ whole).0 t u same added leaves

pub returns-clause-second : goal.returns-clause-second
returns-clause-second g c old new added whole t u same leaves =
    second_images old new (and_parts _ _ whole).0 t u same added leaves

pub returns-clause-local_kept : goal.returns-clause-local_kept
returns-clause-local_kept g c old new test t u same leaves =
    local_device old new (λ pairs. IsTrue (test pairs)) t u same leaves

pub returns-clause-second_kept : goal.returns-clause-second_kept
returns-clause-second_kept g c old new test t u same leaves =
    second_device old new (λ pairs. IsTrue (test pairs)) t u same leaves
