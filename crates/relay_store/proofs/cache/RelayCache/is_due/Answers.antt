use Rattle.std.proofs.Common.{List, sym, subst}
use Rattle.cache_api.specs.Keys.{text_of}
use Rattle.cache_api.specs.Pairs.{Pair, LacksKey}
use Rattle.cache_api.proofs.Firsts.{none_due}
use Rattle.relay_store.specs.Relays.{state_of}
use Rattle.relay_store.proofs.cache.RelayCache.is_due.Goals as goal

pub returns : goal.returns
returns g c told none =
    subst (λ (due : List Pair). LacksKey (text_of c.args._key.now) due)
    (sym (none_due (state_of c.args.self.now).pairs)) tt
