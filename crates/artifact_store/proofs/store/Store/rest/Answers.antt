use Rattle.std.proofs.Common.{◌∙◌, ap}
use Rattle.record_log.specs.Frames.{frames_of}
use Rattle.artifact_store.specs.Pairs.{stands_for}
use Rattle.artifact_store.specs.Laws.{stands_is}
use Rattle.artifact_store.proofs.store.Store.rest.Goals as goal

pub returns-clause-pairs : goal.returns-clause-pairs
returns-clause-pairs g c told whole =
    let s = g.S.StoreDevice in
    let bytes = s.content c.args.self.log.device in
    ap (λ d. stands_for (s.content d)) c.rest-log.ensures.device
    ∙ stands_is bytes (frames_of bytes) (c.args.self.log.kept whole told).read
