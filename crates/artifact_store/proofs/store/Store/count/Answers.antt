use Rattle.std.proofs.Common.{length, ap, arith}
use Rattle.blob_pool.specs.Known.{known_in}
use Rattle.blob_pool.specs.Laws.{known_whole}
use Rattle.pair_frames.specs.Pairs.{pairs_in}
use Rattle.pair_frames.specs.Reading.{length-record_places}
use Rattle.artifact_store.proofs.store.Store.count.Goals as goal

pub returns-clause-pairs : goal.returns-clause-pairs
returns-clause-pairs g c told whole =
    let store = c.args.self.now in
    let index = store.indexed.told told in
    omega (arith, c.len.ensures, ap length index.frames, length-record_places (known_in store.log), ap (λ fs. length (pairs_in fs)) (known_whole store.log whole told))
