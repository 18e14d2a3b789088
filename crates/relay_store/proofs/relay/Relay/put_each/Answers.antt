use Rattle.std.proofs.Common.{Err}
use Rattle.std.proofs.lemmas.Bool.{and_parts}
use Rattle.relay_store.proofs.Putting.{unchanged}
use Rattle.relay_store.proofs.relay.Relay.put_each.Goals as goal

pub returns-in-Err-clause-unchanged : goal.returns-in-Err-clause-unchanged
returns-in-Err-clause-unchanged g c t u =
    let parts = and_parts _ _ c.requires in
    unchanged c.args.self.now c.put_in_turn.new.self _ (Err c.in-Err.fault) parts.0
    c.in-Err.ensures.putting t u
