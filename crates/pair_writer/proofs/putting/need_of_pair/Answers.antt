use Rattle.std.proofs.Common.{◌≡◌, List, ◌++◌, length, ap, ◌∙◌}
use Rattle.std.proofs.lemmas.List.{append-nil}
use Rattle.cache_api.specs.Memory.{capped}
use Rattle.record_log.specs.Kinds.{Entry}
use Rattle.record_log.specs.Frames.{opened}
use Rattle.record_log.specs.Log.{frames_in}
use Rattle.blob_pool.specs.Known.{known_in}
use Rattle.blob_pool.specs.Laws.{known_whole}
use Rattle.pair_frames.specs.Puts.{put_frames}
use Rattle.pair_writer.specs.Staged.{entries}
use Rattle.pair_writer.specs.Putting.{new_pair}
use Rattle.pair_writer.proofs.putting.need_of_pair.Goals as goal

pub returns-clause-need : goal.returns-clause-need
returns-clause-need g c told =
    let log = c.args.log.now in
    let pair = new_pair c.args.pair in
    let none = c.new-staged.ensures in
    let fs : known_in log ++ entries c.new-staged.result ≡ frames_in log =
    ap (λ (l : List Entry). known_in log ++ l) none ∙ append-nil (known_in log) ∙ known_whole log c.requires.whole told in
    c.size.ensures
    ∙ ap (λ (l : List Entry). capped (length (opened l)))
    (c.in_ok-stage.ensures.frames told ∙ (λ i. none i ++ put_frames (fs i) pair))
