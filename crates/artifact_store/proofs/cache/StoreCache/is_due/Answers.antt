use Rattle.std.proofs.Common.{List, sym, subst}
use Rattle.cache_api.specs.Keys.{text_of}
use Rattle.cache_api.specs.Pairs.{Pair, LacksKey}
use Rattle.cache_api.proofs.Firsts.{none_due}
use Rattle.artifact_store.specs.Store.{state_of}
use Rattle.artifact_store.proofs.cache.StoreCache.is_due.Goals as goal

pub returns : goal.returns
returns g c told none =
    subst (λ (due : List Pair). LacksKey (text_of c.args._key.now) due) (sym (none_due (state_of c.args.self.now).pairs)) tt
