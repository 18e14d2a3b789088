use Rattle.std.proofs.lemmas.Bool.{and_parts}
use Rattle.relay_store.specs.Laws.{local_goes, second_goes}
use Rattle.relay_store.proofs.relay.Relay.parts.Goals as goal

pub returns-clause-local : goal.returns-clause-local
returns-clause-local g c t u whole =
    local_goes c.args.self (and_parts _ _ whole).0 t u

pub returns-clause-second : goal.returns-clause-second
returns-clause-second g c t u whole =
    second_goes c.args.self (and_parts _ _ whole).0 t u
