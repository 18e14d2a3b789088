use Rattle.std.proofs.Common.{◌≡◌, List, true, [], length, get_or, refl, ◌∙◌, ap}
use Rattle.std.proofs.lemmas.Option.{slice_get_read}
use Rattle.std.proofs.lemmas.Result.{IfOk-weaker}
use Rattle.record_log.specs.Kinds.{Entry}
use Rattle.record_log.specs.Frames.{all_formed}
use Rattle.blob_pool.specs.Known.{known_in}
use Rattle.blob_pool.specs.Laws.{known_whole}
use Rattle.pair_frames.specs.Pairs.{pairs_in}
use Rattle.pair_reader.specs.Frames.{pair_at}
use Rattle.artifact_store.specs.Store.{device_of, frames_of}
use Rattle.artifact_store.proofs.After.{cache_reads}
use Rattle.artifact_store.proofs.Given.{holds_there, pair_there}
use Rattle.artifact_store.proofs.store.Store.pair_at.Goals as goal

pub pair_at-requires-clause-pair : goal.pair_at-requires-clause-pair
pair_at-requires-clause-pair g c told =
    let store = c.args.self.now in
    let frames = store.index.frames.items in
    let there = slice_get_read frames (length frames) c.args.number c.index-frame.result.now refl c.requires.number c.index-frame.ensures in
    holds_there store.index (known_in store.log) (store.indexed.told told) c.args.number c.index-frame.result.now there

pub returns-clause-pair : goal.returns-clause-pair
returns-clause-pair g c told =
    let store = c.args.self.now in
    let frames = store.index.frames.items in
    let fs = known_in store.log in
    let there = slice_get_read frames (length frames) c.args.number c.index-frame.result.now refl c.requires.number c.index-frame.ensures in
    let known : fs ≡ frames_of store = known_whole store.log c.requires.whole told in
    let formed : all_formed [] fs ≡ true = ap (all_formed []) known ∙ (store.log.kept c.requires.whole told).rest.formed in
    let is = pair_there store.index fs (store.indexed.told told) c.args.number c.index-frame.result.now there formed
    ∙ ap (λ (l : List Entry). get_or (pairs_in l) c.args.number ([], [])) known in
    IfOk-weaker c.pair_at.result (λ p. p ≡ pair_at fs c.index-frame.result.now)
    (λ p. p ≡ get_or (pairs_in (frames_of store)) c.args.number ([], []))
    (λ p e. e ∙ is) (c.pair_at.ensures.pair told)

pub returns-clause-reads : goal.returns-clause-reads
returns-clause-reads g c =
    cache_reads c.args.self.now _ c.requires.whole (g.met.S.StoreDevice.only_now (device_of c.args.self.now))
    (record { log = c.pair_at.ensures.log; index = refl; generation = refl })

pub returns-clause-store : goal.returns-clause-store
returns-clause-store g c = record { log = c.pair_at.ensures.log; index = refl; generation = refl }
