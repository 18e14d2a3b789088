use Rattle.cache_api.specs.Moments.{started}
use Rattle.cache_api.specs.Pairs.{IsPartSince}
use Rattle.relay_store.specs.Relays.{base_of, state_of, moment_of, left_of, says}
use Rattle.relay_store.specs.Rests.{all_rest}
use Rattle.relay_store.proofs.cache.RelayCache.settle.Goals as goal

pub returns-clause-left : goal.returns-clause-left
returns-clause-left g c told =
    let r = c.args.self.now in
    started moment_of left_of r (λ image. IsPartSince (state_of r).lasting (state_of r).pairs
    (says (base_of r) image))
    (λ image left. all_rest g.met.S.StoreDevice.only_now g.met.R.StoreDevice.only_now r image told
    c.requires left)
