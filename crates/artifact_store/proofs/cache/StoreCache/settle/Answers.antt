use Rattle.cache_api.specs.Moments.{started}
use Rattle.cache_api.specs.Pairs.{IsPartSince}
use Rattle.artifact_store.specs.Laws.{all_told}
use Rattle.artifact_store.specs.Pairs.{told_as}
use Rattle.artifact_store.specs.Store.{device_of, state_of, moment_of, left_of}
use Rattle.artifact_store.proofs.cache.StoreCache.settle.Goals as goal

pub returns-clause-left : goal.returns-clause-left
returns-clause-left g c told =
    let store = c.args.self.now in
    started moment_of left_of store (λ image. IsPartSince (state_of store).lasting (state_of store).pairs (told_as store.generation image))
    (λ image left. all_told (store.log.kept c.requires told) store.generation (store.same c.requires told) image
    (g.met.S.StoreDevice.only_now (device_of store) image left))
